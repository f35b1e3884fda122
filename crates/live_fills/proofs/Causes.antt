-- Why a filler ended before the links did.
use Rattle.std.proofs.Common.{◌≡◌, ◌⊎◌, inl, inr, ℕ, suc, ◌+◌, ◌<◌, ◌≤◌, List, [], ◌∷◌, ◌++◌, length, Contains, true, false, Option, Some, Result, Err, sym, ap, ◌∙◌, subst, arith}
use Rattle.std.specs.Prelude.{slice_get}
use Rattle.std.specs.List.{range_with_len}
use Rattle.std.specs.Option.{option_or}
use Rattle.std.proofs.lemmas.List.FromFn.{get_or-range_with_len, length-range_with_len}
use Rattle.std.proofs.lemmas.List.Elements.{Contains-append_right}
use mathlib.Core.List.{IsPrefix}
use Rattle.arch_disk.specs.Disk.{Device}
use Rattle.arch_types.specs.declared.inserted.Installed.{Installed}
use Rattle.refusals.specs.declared.refusal.Refusal.{Refusal}
use Rattle.refusals.specs.declared.refusal.Refusal.TheVariants as refused
use Rattle.refusals.specs.declared.refusal.Which.TheVariants.{Records}
use Rattle.refusals.specs.Limits.{limit_of}
use Rattle.history_items.specs.declared.fills.Addition.TheVariants as additions
use Rattle.history_items.specs.declared.fills.Addition.TheVariants.{Nothing}
use Rattle.history_items.specs.declared.fills.Fill.{Fill}
use Rattle.history_items.specs.declared.fills.Fill.TheVariants.{Fault}
use Rattle.history_items.specs.declared.items.Item.{Item}
use Rattle.history_items.specs.Fills.{pending_fault_of}
use Rattle.history_items.proofs.FillLists.{pending_fault_of-append}
use Rattle.store_fills.specs.declared.task.FillTask.{FillTask}
use Rattle.store_fills.specs.Built.{BuiltFill}
use Rattle.turn_cell.specs.Pass.{PassView}
use Rattle.archive_store.specs.Installs.{IsInstallRefusal}
use Rattle.archive_store.specs.StoreView.{StoreView}
use Rattle.archive_store.specs.Pages.{TellsRows}
use Rattle.live_archive.specs.Added.{AddsTo, AreReadFaults, InstallNotes, flight_ended}
use Rattle.live_archive.specs.GoesOn.{dones}
use Rattle.live_archive.specs.Reads.{IsReadFaultAt, IsUnread}
use Rattle.live_archive.specs.Turns.{Turned}
use Rattle.live_archive.proofs.Added.{begins_add, installs_add}
use Rattle.live_archive.proofs.Going.{dones-append, prefix_length}
use Rattle.live_archive.proofs.Places.{at_behind, at_later}
use Rattle.live_archive.proofs.Unread.{unread_is, unread_on}
use Rattle.live_fills.specs.Filler.{HasNotedFault, IsFillerRefusal, IsLogFull, IsRefusalOf, IsWriteFaultAt}
use Rattle.live_fills.specs.LiveTarget.{BeginsInTurn, BuildsAndInstalls, GivesUpInTurn, InstallsInTurn}

-- ---- fill lists that go on

pending_stays : (noted fills : List Fill) (faults : ℕ) → IsPrefix noted fills → pending_fault_of noted ≡ Some faults → pending_fault_of fills ≡ Some faults
pending_stays noted fills faults p is =
    ap pending_fault_of (sym p.1) ∙ (pending_fault_of-append noted p.0 ∙ ap (λ (o : Option ℕ). option_or o (pending_fault_of p.0)) is)

dones_rise : (noted fills : List Fill) → IsPrefix noted fills → dones noted ≤ dones fills
dones_rise noted fills p = let d = sym (ap dones p.1) ∙ dones-append noted p.0 in omega (arith, d)

-- ---- by call

module _ {D T : Type 0} (device : Device D) (first : StoreView D) (old new : PassView Item Fill T) where
  -- a fault that a turn noted first
  noted_first : (before : StoreView D) (noted : List Fill) (fault : Fill) (rest : List Fill) → noted ≡ fault ∷ rest → AddsTo before old new [] noted
      → Contains new.fills.places (length before.fills) × (slice_get new.fills.seen (length before.fills) ≡ Some fault)
  noted_first before noted fault rest shape adds =
      let long : length noted ≡ suc (length rest) = ap length shape in
      let some : 0 < length noted = omega (arith, long) in
      let here : length before.fills ≡ length before.fills + 0 = omega arith in
      let range = range_with_len (length before.fills) (length noted) in
      let inside : Contains range (length before.fills) = (
        0,
        subst (λ (n : ℕ). 0 < n) (sym (length-range_with_len (length before.fills) (length noted))) some,
        get_or-range_with_len (length before.fills) (length noted) 0 (length before.fills) some ∙ sym here,
      ) in (
        subst (λ (l : List ℕ). Contains l (length before.fills)) (sym adds.fills.places) (Contains-append_right old.fills.places range (length before.fills) inside),
        ap (λ (l : List Fill). slice_get l (length before.fills)) adds.fills.seen
            ∙ (ap (slice_get (before.fills ++ noted)) here ∙ (at_behind before.fills noted 0 ∙ ap (λ (l : List Fill). slice_get l 0) shape)),
      )

  pub begin_cause : (refusal : Refusal) → BeginsInTurn device first old (Err refusal) new → IsRefusalOf device first new refusal
  begin_cause refusal turn =
      by_unread refusal (unread_on device first turn.before turn.turned.found.appends.sealed refusal (unread_is device turn.before turn.after refusal turn.said.0))
      (begins_add T device first turn.before turn.after old new (Err refusal) turn.turned turn.said)
    where
      by_unread : (e : Refusal) → IsUnread (TellsRows device first) first.sealed e → (noted : List Fill) × AreReadFaults turn.before e noted × AddsTo turn.before old new [] noted → IsRefusalOf device first new e
      by_unread refused.OutOfMemory why adds = tt
      by_unread (refused.Damaged file at) why adds = why
      by_unread refused.DiskFault why (noted, (paged, (count, is)), adds) =
          let first_one = noted_first turn.before noted (Fault count false Nothing) [] is adds in
          record { place = length turn.before.fills; noted = first_one.0; there = inr (why, (count, first_one.1)) }
      by_unread _ why adds = absurd why

  -- a log that had no place left in a turn
  log_full : (before after : StoreView D) (noted : List Fill) → Turned device first before after old new → AddsTo before old new [] noted → limit_of Records ≤ before.records → IsLogFull first new.history.seen new.fills.seen
  log_full before after noted turned adds full =
      let records = turned.found.records in
      let long = prefix_length before.history new.history.seen ([], sym adds.history.seen) in
      let more = dones_rise before.fills new.fills.seen (noted, sym adds.fills.seen) in
      omega (arith, full, records, long, more)

  -- a fault that a turn noted
  fault_noted : (before : StoreView D) (done : BuiltFill) (noted : List Fill) → InstallNotes before.fills done (Err refused.DiskFault) noted → AddsTo before old new [] noted → HasNotedFault first.sealed new.fills.places new.fills.seen
  fault_noted before done noted (faults, (count, is), whole) adds =
      let fault = Fault count true (additions.Fill done.interval done.base) in
      let first_one = noted_first before noted fault (flight_ended done.interval before.fills) (whole ∙ ap (λ (l : List Fill). l ++ flight_ended done.interval before.fills) is) adds in
      record { place = length before.fills; noted = first_one.0; there = inl (count, additions.Fill done.interval done.base, first_one.1) }

  pub install_cause : (task : FillTask) (refusal : Refusal) → InstallsInTurn device first old task (Err refusal) new → IsRefusalOf device first new refusal
  install_cause task refusal installs = by_turn installs.turn
    where
      of_done : (e : Refusal) (done : BuiltFill) (before after : StoreView D) → Turned device first before after old new → IsInstallRefusal device before after done e
          → (noted : List Fill) × InstallNotes before.fills done (Err e) noted × AddsTo before old new [] noted → IsRefusalOf device first new e
      of_done refused.OutOfMemory done before after turned said adds = tt
      of_done (refused.NeedsReopen faults) done before after turned said adds = pending_stays before.fills new.fills.seen faults (adds.0, sym adds.2.fills.seen) said.0
      of_done (refused.Limit which number) done before after turned said adds = (said.2, said.3, log_full before after adds.0 turned adds.2 said.4)
      of_done refused.DiskFault done before after turned said adds = fault_noted before done adds.0 adds.1 adds.2
      of_done _ done before after turned said adds = absurd said

      by_turn : BuildsAndInstalls device first old task (Err refusal) new ⊎ ((◌≡◌ {A = Result Installed Refusal} (Err refusal) (Err refused.OutOfMemory)) × GivesUpInTurn device first old task new) → IsRefusalOf device first new refusal
      by_turn (inr (is, turn)) = let e : refusal ≡ refused.OutOfMemory = cc is in subst (IsRefusalOf device first new) (sym e) tt
      by_turn (inl (done, of, turn)) = of_done refusal done turn.before turn.after turn.turned turn.said (installs_add T device first turn.before turn.after old new done (Err refusal) turn.turned turn.said)

-- ---- it stays

module _ {D : Type 0} (device : Device D) (first : StoreView D) (places : List ℕ) (front history : List Item) (noted fills : List Fill) (more : IsPrefix front history) (on : IsPrefix noted fills) where
  there_later : (place : ℕ) → IsWriteFaultAt noted place ⊎ ((0 < first.sealed) × IsReadFaultAt noted place) → IsWriteFaultAt fills place ⊎ ((0 < first.sealed) × IsReadFaultAt fills place)
  there_later place (inl (count, addition, there)) = inl (count, addition, at_later noted fills place (Fault count true addition) on there)
  there_later place (inr (paged, (count, there))) = inr (paged, (count, at_later noted fills place (Fault count false Nothing) on there))

  pub cause_stays : (refusal : Refusal) → IsFillerRefusal device first places front noted refusal → IsFillerRefusal device first places history fills refusal
  cause_stays refused.OutOfMemory cause = tt
  cause_stays (refused.NeedsReopen faults) cause = pending_stays noted fills faults on cause
  cause_stays (refused.Limit which number) cause =
      let full = cause.2 in
      let long = prefix_length front history more in
      let rise = dones_rise noted fills on in
      (cause.0, cause.1, omega (arith, full, long, rise))
  cause_stays refused.DiskFault cause = record { place = cause.place; noted = cause.noted; there = there_later cause.place cause.there }
  cause_stays (refused.Damaged file at) cause = cause
  cause_stays _ cause = absurd cause
