-- What each call adds.
use Rattle.std.proofs.Common.{◌≡◌, ◌⊎◌, inl, inr, ℕ, ◌+◌, ◌-◌, Bool, true, false, List, [], ◌∷◌, ◌++◌, length, Option, Some, None, Result, Ok, Err, if◌then◌else◌, refl, sym, ap, ◌∙◌, subst, arith, append_assoc, append-nil, length-append}
use Rattle.std.specs.List.{range_with_len}
use Rattle.std.specs.Option.{is_some}
use mathlib.Core.List.{IsPrefix}
use Rattle.arch_disk.specs.Disk.{Device}
use Rattle.arch_types.specs.declared.inserted.Installed.{Installed}
use Rattle.arch_types.specs.declared.inserted.Installed.TheVariants as became
use Rattle.arch_types.specs.declared.row.Row.{Row}
use Rattle.arch_types.specs.declared.row_fault.RowFault.{RowFault}
use Rattle.arch_types.specs.declared.row_fault.RowFault.TheVariants as unread
use Rattle.refusals.specs.Refusal.{refusal_of_rows}
use Rattle.intervals.specs.declared.interval.Interval.{Interval}
use Rattle.refusals.specs.declared.refusal.Refusal.{Refusal}
use Rattle.refusals.specs.declared.refusal.Refusal.TheVariants as refused
use Rattle.history_items.specs.declared.fills.Addition.TheVariants as additions
use Rattle.history_items.specs.declared.fills.Addition.TheVariants.{Nothing}
use Rattle.history_items.specs.declared.fills.Fill.{Fill}
use Rattle.history_items.specs.declared.fills.Fill.TheVariants.{Freed, Fault, Closed}
use Rattle.history_items.specs.declared.items.Item.{Item}
use Rattle.history_items.specs.Fills.{flight_after, in_flight}
use Rattle.history_items.specs.Items.{items_of}
use Rattle.history_items.proofs.FillLists.{flight_after_item}
use Rattle.interval_fills.specs.Steps.{freed}
use Rattle.store_fills.specs.declared.task.FillTask.{FillTask}
use Rattle.store_fills.specs.Built.{BuiltFill}
use Rattle.turn_cell.specs.declared.view.SeenList.{SeenList}
use Rattle.turn_cell.specs.Lists.{found_seen, left_seen}
use Rattle.turn_cell.specs.Pass.{PassView}
use Rattle.archive_store.specs.declared.batch.Ingested.{Ingested}
use Rattle.archive_store.specs.StoreView.{StoreView}
use Rattle.archive_store.specs.Calls.{IsIngestRefusal}
use Rattle.archive_store.specs.Installs.{IsAbandoned, IsInstallRefusal, IsStoreInstalled}
use Rattle.archive_store.specs.Tasks.{IsFillBegun}
use Rattle.archive_store.specs.UnreadRows.{IsLeftByRefusal, IsReadFault, IsReadRefusal, ReadsRows}
use Rattle.archive_store.proofs.Calls.{ingest_cases}
use Rattle.live_archive.specs.Added.{Adds, AddsTo, AbandonsAdd, AreBatchFaults, AreNewRows, AreReadFaults, AsksAdd, AsksAddNothing, BeginNotes, BeginsAdd, ClosesAdd, IngestPuts, IngestsAdd, InstallNotes, InstallsAdd, IsReadNoted, flight_begun, flight_ended}
use Rattle.live_archive.specs.Answers.{SaysBegun, SaysIngested, SaysInstalled}
use Rattle.live_archive.specs.Closings.{HasNotClosed}
use Rattle.live_archive.specs.Shelving.{MayClose}
use Rattle.live_archive.specs.Turns.{Turned}

adds_list : {I : Type 0} (old : SeenList I) (found put left : List I) → IsPrefix old.seen found → left ≡ found ++ put → Adds old (left_seen (found_seen old found) left) found put
adds_list {I} old found put left begins is = subst (λ (l : List I). Adds old (left_seen (found_seen old found) l) found put) (sym is) (record {
  begins = begins;
  seen = refl;
  length_found = refl;
  added = ap (λ (n : ℕ). old.added + n) behind;
  places = ap (λ (n : ℕ). old.places ++ range_with_len (length found) n) behind;
})
  where
    behind : length (found ++ put) - length found ≡ length put
    behind = omega (arith, length-append found put)

-- what the end of a flight adds
freed_adds : (i : Interval) (fills : List Fill) → freed i fills ≡ fills ++ flight_ended i fills
freed_adds i fills = go (is_some (in_flight i fills))
  where
    go : (b : Bool) → (if b then fills ++ Freed i ∷ [] else fills) ≡ fills ++ (if b then Freed i ∷ [] else [])
    go true = refl
    go false = sym (append-nil fills)

-- the same behind a fault
freed_behind : (i : Interval) (fills : List Fill) (fault : Fill) → ((o : Option ℕ) → flight_after i o fault ≡ o) → freed i (fills ++ fault ∷ []) ≡ fills ++ ((fault ∷ []) ++ flight_ended i fills)
freed_behind i fills fault silent =
    freed_adds i (fills ++ fault ∷ [])
    ∙ ap (λ (o : Option ℕ). (fills ++ fault ∷ []) ++ (if is_some o then Freed i ∷ [] else [])) (flight_after_item i fills fault ∙ silent (in_flight i fills))
    ∙ append_assoc fills (fault ∷ []) (flight_ended i fills)

module _ {D T : Type 0} (device : Device D) (first before after : StoreView D) (old new : PassView Item Fill T) where
  adds : Turned device first before after old new → (items : List Item) (noted : List Fill) → after.history ≡ before.history ++ items → after.fills ≡ before.fills ++ noted → AddsTo before old new items noted
  adds t items noted history fills = record {
    turns = ap (λ (p : PassView Item Fill T). p.turns) t.pass;
    share = ap (λ (p : PassView Item Fill T). p.share) t.pass;
    history = subst (λ (s : SeenList Item). Adds old.history s before.history items) (sym (ap (λ (p : PassView Item Fill T). p.history) t.pass)) (adds_list old.history before.history items after.history t.begins history);
    fills = subst (λ (s : SeenList Fill). Adds old.fills s before.fills noted) (sym (ap (λ (p : PassView Item Fill T). p.fills) t.pass)) (adds_list old.fills before.fills noted after.fills t.fills_begin fills);
  }

  -- a call that notes something, and leaves the history
  notes : Turned device first before after old new → (noted : List Fill) → after.history ≡ before.history → after.fills ≡ before.fills ++ noted → AddsTo before old new [] noted
  notes t noted history fills = adds t [] noted (history ∙ sym (append-nil before.history)) fills

  nothing : Turned device first before after old new → after ≡ before → AddsTo before old new [] []
  nothing t is = notes t [] (ap (λ (s : StoreView D). s.history) is) (ap (λ (s : StoreView D). s.fills) is ∙ sym (append-nil before.fills))

  ended : Turned device first before after old new → (i : Interval) → IsAbandoned before after i → AddsTo before old new [] (flight_ended i before.fills)
  ended t i is = notes t (flight_ended i before.fills) (ap (λ (s : StoreView D). s.history) is) (ap (λ (s : StoreView D). s.fills) is ∙ freed_adds i before.fills)

  -- rows were read
  asked : Turned device first before after old new → ReadsRows device before after → AddsTo before old new [] []
  asked t (inl same) = nothing t same
  asked t (inr pages) = notes t [] (ap (λ (s : StoreView D). s.history) pages.0.same) (pages.1 ∙ sym (append-nil before.fills))

  -- or weren't, at whatever the answer notes then
  module _ (Notes : Refusal → List Fill → Type 0) (of_read : (noted : List Fill) → IsReadNoted before noted → Notes refused.DiskFault noted) (none : (refusal : Refusal) → (refusal ≡ refused.DiskFault → ⊥) → Notes refusal []) where
    unread_for : Turned device first before after old new → (fault : RowFault) → IsReadFault device before after fault → IsLeftByRefusal device before after (refusal_of_rows fault)
        → (noted : List Fill) × Notes (refusal_of_rows fault) noted × AddsTo before old new [] noted
    unread_for t unread.DiskFault is left =
        let noted = Fault is.1.count false Nothing ∷ [] in (noted, of_read noted (is.0, (is.1.count, refl)), notes t noted is.1.history is.1.fills)
    unread_for t (unread.Damaged file at) is left = ([], none (refused.Damaged file at) (λ e. cc e), asked t left)
    unread_for t unread.OutOfMemory is left = ([], none refused.OutOfMemory (λ e. cc e), asked t left)

    unread_adds : Turned device first before after old new → (refusal : Refusal) → IsReadRefusal device before after refusal → IsLeftByRefusal device before after refusal
        → (noted : List Fill) × Notes refusal noted × AddsTo before old new [] noted
    unread_adds t refusal (fault, is, of) left =
        subst (λ (e : Refusal). (noted : List Fill) × Notes e noted × AddsTo before old new [] noted) (sym of) (unread_for t fault is (subst (IsLeftByRefusal device before after) of left))

  no_read_faults : (refusal : Refusal) → (refusal ≡ refused.DiskFault → ⊥) → AreReadFaults before refusal []
  no_read_faults refused.DiskFault other = absurd (other refl)
  no_read_faults _ other = refl

  unasked : Turned device first before after old new → (refusal : Refusal) → IsReadRefusal device before after refusal → IsLeftByRefusal device before after refusal
      → (noted : List Fill) × AreReadFaults before refusal noted × AddsTo before old new [] noted
  unasked t refusal is left = unread_adds (AreReadFaults before) (λ noted read. read) no_read_faults t refusal is left

  -- ---- batches
  abbrev Batched : List Row → Result Ingested Refusal → Type 0
  Batched rows answer = (put : List Row) × (noted : List Fill) × IngestPuts device before rows answer put noted × AddsTo before old new (items_of put) noted

  no_batch_faults : (rows : List Row) (refusal : Refusal) → (refusal ≡ refused.DiskFault → ⊥) → AreBatchFaults device before rows refusal []
  no_batch_faults rows refused.DiskFault other = absurd (other refl)
  no_batch_faults rows _ other = refl

  batch_refused : Turned device first before after old new → (rows : List Row) (e : Refusal) → IsIngestRefusal device before after rows e → Batched rows (Err e)
  batch_refused t rows e i =
      ingest_cases device before after rows (λ r. Batched rows (Err r)) e i (λ n r. ([], [], (refl, refl), nothing t r.1)) (λ w n r. ([], [], (refl, refl), asked t r.2))
      (λ failed.
      let noted = Fault failed.fault.count true (additions.Rows failed.fresh) ∷ [] in
      let fresh : AreNewRows device before rows failed.fresh = record { of_batch = failed.of_batch; few = failed.few; told = λ told. (failed.told told).fresh_is } in
      ([], noted, (refl, inl (failed.fresh, fresh, (failed.fault.count, refl))), notes t noted failed.fault.history failed.fault.fills))
      (λ refusal r.
      let adds = unread_adds (AreBatchFaults device before rows) (λ noted read. inr read) (no_batch_faults rows) t refusal r.unread r.left in
      ([], adds.0, (refl, adds.1), adds.2))
      (λ r. ([], [], (refl, refl), asked t r.1))

  batched : Turned device first before after old new → (rows : List Row) (answer : Result Ingested Refusal) → SaysIngested device rows answer before after → Batched rows answer
  batched t rows (Ok ingest) i = (
    i.fresh,
    [],
    (record { of_batch = i.of_batch; few = i.few; told = λ told. (i.told told).fresh_is }, refl),
    adds t (items_of i.fresh) [] i.history (i.fills ∙ sym (append-nil before.fills)),
  )
  batched t rows (Err e) i = batch_refused t rows e i

  -- ---- fills
  begun : Turned device first before after old new → (o : Option FillTask) → IsFillBegun device before after o → AddsTo before old new [] (flight_begun o)
  begun t None i = nothing t i.1
  begun t (Some task) i = notes t (flight_begun (Some task)) (begun_history i.reads) i.fills
    where
      begun_history : ReadsRows device before (record after { fills = before.fills }) → after.history ≡ before.history
      begun_history (inl same) = ap (λ (s : StoreView D). s.history) same
      begun_history (inr pages) = ap (λ (s : StoreView D). s.history) pages.0.same

  began : Turned device first before after old new → (answer : Result (Option FillTask) Refusal) → SaysBegun device answer before after → (noted : List Fill) × BeginNotes before answer noted × AddsTo before old new [] noted
  began t (Ok o) i = (flight_begun o, refl, begun t o i)
  began t (Err e) i = unasked t e i.0 i.1

  abbrev Filled : BuiltFill → Result Installed Refusal → Type 0
  Filled done answer = (noted : List Fill) × InstallNotes before.fills done answer noted × AddsTo before old new [] noted

  fill_installed : Turned device first before after old new → (done : BuiltFill) (installed : Installed) → IsStoreInstalled device before after done installed → Filled done (Ok installed)
  fill_installed t done became.Done i = let is = i.1.step.1 in (_, refl, notes t _ (ap (λ s. s.history) is) (ap (λ s. s.fills) is))
  fill_installed t done (became.Stale position) i = (_, refl, ended t done.interval i.2)

  fill_refused : Turned device first before after old new → (done : BuiltFill) (e : Refusal) → IsInstallRefusal device before after done e → Filled done (Err e)
  fill_refused t done refused.Usage i = absurd i
  fill_refused t done (refused.NeedsReopen n) i = (_, ([], refl, refl), ended t done.interval i.1)
  fill_refused t done (refused.Limit w n) i = (_, ([], refl, refl), ended t done.interval i.5)
  fill_refused t done refused.OutOfMemory i = (_, ([], refl, refl), ended t done.interval i.2)
  fill_refused t done refused.DiskFault i =
      let failed = i.2 in
      let same = failed.2 in
      let added = failed.1 in
      let fault = Fault added.count true (additions.Fill done.interval done.base) in
      let noted = (fault ∷ []) ++ flight_ended done.interval before.fills in (
        noted,
        (fault ∷ [], (added.count, refl), refl),
        notes t noted (ap (λ (s : StoreView D). s.history) same ∙ added.history)
            (ap (λ (s : StoreView D). s.fills) same ∙ (ap (freed done.interval) added.fills ∙ freed_behind done.interval before.fills fault (λ o. refl))),
      )
  fill_refused t done _ i = absurd i

  -- ---- the last publication
  closed : Turned device first before after old new → MayClose first before after → (HasNotClosed first before.fills × AddsTo before old new [] (Closed ∷ [])) ⊎ AddsTo before old new [] []
  closed t (inl (unclosed, is)) = inl (unclosed, notes t (Closed ∷ []) (ap (λ (s : StoreView D). s.history) is) (ap (λ (s : StoreView D). s.fills) is))
  closed t (inr is) = inr (nothing t is)

  filled : Turned device first before after old new → (done : BuiltFill) (answer : Result Installed Refusal) → SaysInstalled device done answer before after → Filled done answer
  filled t done (Ok installed) i = fill_installed t done installed i
  filled t done (Err e) i = fill_refused t done e i

module _ {D : Type 0} (T : Type 0) (device : Device D) where
  pub ingests_add : IngestsAdd T device
  ingests_add first before after old new rows answer t said = batched device first before after old new t rows answer said

  pub begins_add : BeginsAdd T device
  begins_add first before after old new answer t said = began device first before after old new t answer said

  pub installs_add : InstallsAdd T device
  installs_add first before after old new done answer t said = filled device first before after old new t done answer said

  pub abandons_add : AbandonsAdd T device
  abandons_add first before after old new interval t said = ended device first before after old new t interval said

  pub closes_add : ClosesAdd T device
  closes_add first before after old new t may = closed device first before after old new t may

  pub asks_add_nothing : AsksAddNothing T device
  asks_add_nothing first before after old new t reads = asked device first before after old new t reads

  pub asks_add : AsksAdd T device
  asks_add first before after old new refusal t is left = unasked device first before after old new t refusal is left
