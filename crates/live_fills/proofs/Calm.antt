-- What a filler notes none of whose calls was refused.
use Rattle.std.proofs.Common.{◌≡◌, ◌⊎◌, inl, inr, ℕ, ◌+◌, ◌<◌, Bool, true, false, List, [], ◌∷◌, ◌++◌, length, Contains, Option, Some, None, Result, Ok, Err, if◌then◌else◌, refl, sym, ap, ◌∙◌, subst}
use Rattle.std.specs.Prelude.{slice_get}
use Rattle.std.specs.List.{AllByRecursion, range_with_len}
use Rattle.std.specs.Option.{is_some}
use Rattle.std.proofs.lemmas.List.FromFn.{get_or-range_with_len, length-range_with_len}
use Rattle.std.proofs.lemmas.List.Elements.{Contains-append_cases}
use Rattle.arch_disk.specs.Disk.{Device}
use Rattle.arch_types.specs.declared.inserted.Installed.{Installed}
use Rattle.arch_types.specs.declared.inserted.Installed.TheVariants as became
use Rattle.intervals.specs.declared.interval.Interval.{Interval}
use Rattle.refusals.specs.declared.refusal.Refusal.{Refusal}
use Rattle.refusals.specs.declared.refusal.Refusal.TheVariants.{OutOfMemory}
use Rattle.history_items.specs.declared.fills.Fill.{Fill}
use Rattle.history_items.specs.declared.fills.Fill.TheVariants.{Freed}
use Rattle.history_items.specs.declared.items.Item.{Item}
use Rattle.history_items.specs.Fills.{in_flight}
use Rattle.store_fills.specs.declared.task.FillTask.{FillTask}
use Rattle.store_fills.specs.Built.{BuiltFill}
use Rattle.store_fills.specs.Faults.{is_fault}
use Rattle.backfiller.specs.Work.{AreDone, AreHandedOn, IsWorkDone}
use Rattle.turn_cell.specs.Pass.{PassView}
use Rattle.archive_store.specs.StoreView.{StoreView}
use Rattle.live_archive.specs.Added.{AddsTo, fill_notes, flight_begun, flight_ended}
use Rattle.live_archive.proofs.Added.{begins_add, installs_add}
use Rattle.live_archive.proofs.Places.{at_behind, at_later}
use Rattle.live_fills.specs.Filler.{AreWorksDone, FillsAlone}
use Rattle.live_fills.specs.LiveTarget.{BeginsInTurn, BuildsAndInstalls, GivesUpInTurn, InstallsInTurn}
use Rattle.live_fills.proofs.Alone.{alone_on, alone_same, begin_alone, install_alone}
use Rattle.live_fills.proofs.Notes.{some_at}

-- ---- items that are no faults

abbrev IsCalm : Fill → Type 0
IsCalm item = is_fault item ≡ false

ended_calm : (i : Interval) (fills : List Fill) → AllByRecursion IsCalm (flight_ended i fills)
ended_calm i fills = go (is_some (in_flight i fills))
  where
    go : (b : Bool) → AllByRecursion IsCalm (if b then Freed i ∷ [] else [])
    go true = (refl, tt)
    go false = tt

begun_calm : (begun : Option FillTask) → AllByRecursion IsCalm (flight_begun begun)
begun_calm None = tt
begun_calm (Some task) = (refl, tt)

filled_calm : (fills : List Fill) (done : BuiltFill) (installed : Installed) → AllByRecursion IsCalm (fill_notes fills done installed)
filled_calm fills done became.Done = (refl, tt)
filled_calm fills done (became.Stale position) = ended_calm done.interval fills

-- ---- passes

-- no fault stands at the place
abbrev pub IsCalmAt : List Fill → ℕ → Type 0
IsCalmAt fills place = (item : Fill) × (slice_get fills place ≡ Some item) × (is_fault item ≡ false)

-- what a pass has noted since are no faults
abbrev pub NotesNoFault : {T : Type 0} → PassView Item Fill T → PassView Item Fill T → Type 0
NotesNoFault old new = (place : ℕ) → Contains new.fills.places place → Contains old.fills.places place ⊎ IsCalmAt new.fills.seen place

module _ {D T : Type 0} (first : StoreView D) where
  -- it fills alone, and notes no fault
  abbrev Calm : PassView Item Fill T → PassView Item Fill T → Type 0
  Calm old new = FillsAlone first old new × NotesNoFault old new

  calm_same : (pass : PassView Item Fill T) → Calm pass pass
  calm_same pass = (alone_same first pass, λ place has. inl has)

  calm_on : (a b c : PassView Item Fill T) → Calm a b → Calm b c → Calm a c
  calm_on a b c p q = (alone_on first a b c p.0 q.0, λ place has. go place (q.1 place has))
    where
      earlier : (place : ℕ) → Contains a.fills.places place ⊎ IsCalmAt b.fills.seen place → Contains a.fills.places place ⊎ IsCalmAt c.fills.seen place
      earlier place (inl has) = inl has
      earlier place (inr (item, there, calm)) = inr (item, at_later b.fills.seen c.fills.seen place item q.0.fills_begin there, calm)

      go : (place : ℕ) → Contains b.fills.places place ⊎ IsCalmAt c.fills.seen place → Contains a.fills.places place ⊎ IsCalmAt c.fills.seen place
      go place (inl has) = earlier place (p.1 place has)
      go place (inr calm) = inr calm

  -- a turn that notes such items
  calm_turn : (before : StoreView D) (old new : PassView Item Fill T) (noted : List Fill) → AddsTo before old new [] noted → AllByRecursion IsCalm noted → NotesNoFault old new
  calm_turn before old new noted adds calm place has =
      go (Contains-append_cases old.fills.places (range_with_len (length before.fills) (length noted)) place (subst (λ (l : List ℕ). Contains l place) adds.fills.places has))
    where
      at_turn : Contains (range_with_len (length before.fills) (length noted)) place → IsCalmAt new.fills.seen place
      at_turn (i, low, is) =
          let within : i < length noted = subst (λ (n : ℕ). i < n) (length-range_with_len (length before.fills) (length noted)) low in
          let at : place ≡ length before.fills + i = sym is ∙ get_or-range_with_len (length before.fills) (length noted) i place within in
          let x = some_at IsCalm noted i within calm in
          (x.0, ap (λ (l : List Fill). slice_get l place) adds.fills.seen ∙ (ap (slice_get (before.fills ++ noted)) at ∙ (at_behind before.fills noted i ∙ x.1)), x.2)

      go : Contains old.fills.places place ⊎ Contains (range_with_len (length before.fills) (length noted)) place → Contains old.fills.places place ⊎ IsCalmAt new.fills.seen place
      go (inl had) = inl had
      go (inr here) = inr (at_turn here)

-- ---- works

module _ {D T : Type 0} (device : Device D) (first : StoreView D) where
  begin_calm : (old new : PassView Item Fill T) (begun : Option FillTask) → BeginsInTurn device first old (Ok begun) new → Calm first old new
  begin_calm old new begun turn =
      let adds = begins_add T device first turn.before turn.after old new (Ok begun) turn.turned turn.said in (
        begin_alone device first old new (Ok begun) turn,
        calm_turn first turn.before old new adds.0 adds.2 (subst (AllByRecursion IsCalm) (sym adds.1) (begun_calm begun)),
      )

  install_calm : (old new : PassView Item Fill T) (task : FillTask) (installed : Installed) → InstallsInTurn device first old task (Ok installed) new → Calm first old new
  install_calm old new task installed installs = (install_alone device first old new task (Ok installed) installs, go installs.turn)
    where
      go : BuildsAndInstalls device first old task (Ok installed) new ⊎ ((◌≡◌ {A = Result Installed Refusal} (Ok installed) (Err OutOfMemory)) × GivesUpInTurn device first old task new) → NotesNoFault old new
      go (inl (done, of, turn)) =
          let before = turn.before in
          let adds = installs_add T device first before turn.after old new done (Ok installed) turn.turned turn.said in
          calm_turn first before old new adds.0 adds.2 (subst (AllByRecursion IsCalm) (sym adds.1) (filled_calm before.fills done installed))
      go (inr (none, turn)) = absurd (cc none)

  handed_calm : (old new : PassView Item Fill T) (tasks : List (FillTask × Installed)) → AreHandedOn (BeginsInTurn device first) (InstallsInTurn device first) old tasks new → Calm first old new
  handed_calm old new [] is = subst (Calm first old) (sym is) (calm_same first old)
  handed_calm old new (task ∷ tasks) (mid, next, b, i, rest) =
      calm_on first old mid new (begin_calm old mid (Some task.0) b) (calm_on first mid next new (install_calm mid next task.0 task.1 i) (handed_calm next new tasks rest))

  work_calm : (old new : PassView Item Fill T) (n : ℕ) → IsWorkDone (BeginsInTurn device first) (InstallsInTurn device first) old new n → Calm first old new
  work_calm old new n work =
      calm_on first old work.last new (handed_calm old work.last work.working.tasks work.working.handed_on) (begin_calm work.last new None work.none)

  done_calm : (old new : PassView Item Fill T) (works : List (PassView Item Fill T × ℕ)) → AreDone (BeginsInTurn device first) (InstallsInTurn device first) old works new → Calm first old new
  done_calm old new [] is = subst (Calm first old) (sym is) (calm_same first old)
  done_calm old new (work ∷ works) (here, rest) = calm_on first old work.0 new (work_calm old work.0 work.1 here) (done_calm work.0 new works rest)

  -- works that were done note no fault
  pub works_note_no_fault : (old new : PassView Item Fill T) → AreWorksDone device first old new → NotesNoFault old new
  works_note_no_fault old new all = (done_calm old new all.works all.done).1
