-- What a session of jobs leaves.
use Rattle.std.specs.Prelude.{◌≡◌, ◌⊎◌, ℕ, ◌<◌, ◌≤◌, List, [], length, map, None, Contains}
use Rattle.std.specs.List.{AllByRecursion}
use mathlib.Core.List.{IsPrefix}
use Rattle.arch_disk.specs.Disk.{Device}
use Rattle.outer_traits.specs.States.{SourceState}
use Rattle.intervals.specs.declared.interval.Interval.{Interval}
use Rattle.history_items.specs.declared.fills.Fill.{Fill}
use Rattle.history_items.specs.declared.items.Item.{Item}
use Rattle.history_items.specs.Fills.{in_flight}
use Rattle.interval_fills.specs.Steps.{all_freed}
use Rattle.store_fills.specs.Faults.{IsDone}
use Rattle.turn_cell.specs.Pass.{PassView}
use Rattle.turn_passes.specs.Passes.{HasSeenAsMuch, Joins}
use Rattle.archive_store.specs.StoreView.{StoreView}
use Rattle.live_archive.specs.declared.held.HeldStore.{HeldStore}
use Rattle.live_archive.specs.GoesOn.{GoesOn}
use Rattle.live_session.specs.declared.order.JobEnd.{JobEnd}
use Rattle.live_session.specs.declared.order.Order.{Order}
use Rattle.live_session.specs.Jobs.{AreOutcomesOf, JobPass, JobSetting}

-- ---- jobs over a live archive

-- Jobs ran with passes that were split off one, and joined to it at their ends. It has its share again.
pub record HaveRun {D T S : Type 0} (device : Device D) (state : S → SourceState) (first : StoreView D)
    (setting : JobSetting) (one : JobPass T) (orders : List (Order S)) (ends : List (JobEnd S)) : Type 0 where
  pub passes : List (JobPass T)
  pub each : AreOutcomesOf device state first setting passes orders ends
  pub began : AllByRecursion (λ p. HasSeenAsMuch one.began p.began) passes
  pub split : PassView Item Fill T
  pub same : (split.history ≡ one.began.history) × (split.fills ≡ one.began.fills)
  pub joined : Joins (map (λ p. p.ended) passes) split one.ended []
  pub share : one.ended.share ≡ one.began.share

-- ---- the whole session

-- a job's pass began with the lists of the first store, and with nothing of its own
pub record BeganWith {D T : Type 0} (first : StoreView D) (pass : JobPass T) : Type 0 where
  pub history : pass.began.history.seen ≡ first.history
  pub fills : pass.began.fills.seen ≡ first.fills
  pub none : (pass.began.history.places ≡ []) × (pass.began.fills.places ≡ [])

-- what it saw last begins these lists
abbrev pub EndedWithin : {T : Type 0} → List Item → List Fill → JobPass T → Type 0
EndedWithin history fills pass =
    IsPrefix pass.ended.history.seen history × IsPrefix pass.ended.fills.seen fills

-- The archive goes on from the first one, with each flight ended. This came of each job, by its pass, and each item
-- that came to either list stands at a place of one of these passes.
pub record IsSessionOver {D S : Type 0} (device : Device D) (state : S → SourceState) (first closed : StoreView D)
    (setting : JobSetting) (orders : List (Order S)) (ends : List (JobEnd S)) : Type 0 where
  pub goes : GoesOn device first closed
  pub idle : (interval : Interval) → in_flight interval closed.fills ≡ None
  pub passes : List (JobPass (HeldStore D))
  pub each : AreOutcomesOf device state first setting passes orders ends
  pub began : AllByRecursion (BeganWith first) passes
  pub last : List Fill
  pub settled : closed.fills ≡ all_freed last
  pub within : AllByRecursion (EndedWithin closed.history last) passes
  pub placed : (place : ℕ) → length first.history ≤ place → place < length closed.history →
      (pass : JobPass (HeldStore D)) × Contains passes pass × Contains pass.ended.history.places place
  pub fills_placed : (place : ℕ) → length first.fills ≤ place → place < length last →
      (pass : JobPass (HeldStore D)) × Contains passes pass × Contains pass.ended.fills.places place

-- Nothing came to the archive; its flights have ended, or none has. So none is in flight where each item was a fill.
pub record NothingCame {D : Type 0} (device : Device D) (first now : StoreView D) : Type 0 where
  pub goes : GoesOn device first now
  pub history : now.history ≡ first.history
  pub fills : (now.fills ≡ first.fills) ⊎ (now.fills ≡ all_freed first.fills)
  pub idle : AllByRecursion IsDone first.fills → (interval : Interval) → in_flight interval now.fills ≡ None
