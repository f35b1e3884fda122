-- What the turns of a pass come to, and what may be built beside them.
use Rattle.std.specs.Prelude.{◌≡◌, ◌+◌, ◌-◌, ◌≤◌, ◌++◌, length, take}
use Rattle.std.specs.List.{range_with_len}
use mathlib.Core.List.{IsPrefix}
use Rattle.std.specs.Arc.{arc_value}
use Rattle.arch_disk.specs.Disk.{Device}
use Rattle.history_items.specs.declared.fills.Fill.{Fill}
use Rattle.history_items.specs.declared.items.Item.{Item}
use Rattle.param_segments.specs.Extracted.{IsSetOf}
use Rattle.store_fills.specs.declared.task.FillTask.{FillTask}
use Rattle.store_fills.specs.Built.{BuiltFill}
use Rattle.store_fills.specs.Filled.{HoldsRows}
use Rattle.turn_cell.specs.Pass.{PassView}
use Rattle.archive_store.specs.Installs.{IsRightFor}
use Rattle.archive_store.specs.Pages.{TellsRows}
use Rattle.archive_store.specs.StoreView.{StoreView, OnlyAppends}
use Rattle.archive_store.specs.Tasks.{BeginsTask}
use Rattle.live_archive.specs.Turns.{Turned, as_seen}

-- The pass has had one turn more. It has seen the whole lists that the turn left, which begin with those that it had
-- seen; cut to the lengths that the turn found, at least those seen before, they are the lists that it found. The
-- turn's places are those behind the lists that it found. Head, exponent and opening are those of the first store.
pub record TellsTurn {D T : Type 0} (first before after : StoreView D) (old new : PassView Item Fill T) : Type 0 where
  pub turns : new.turns ≡ old.turns + 1
  pub share : new.share ≡ old.share
  pub seen : (new.history.seen ≡ after.history) × (new.fills.seen ≡ after.fills)
  pub begins : IsPrefix old.history.seen new.history.seen × IsPrefix old.fills.seen new.fills.seen
  pub found : (new.history.found ≡ length before.history) × (new.fills.found ≡ length before.fills)
  pub later : (length old.history.seen ≤ new.history.found) × (length old.fills.seen ≤ new.fills.found)
  pub cut : (take new.history.found new.history.seen ≡ before.history)
      × (take new.fills.found new.fills.seen ≡ before.fills)
  pub places : new.history.places ≡ old.history.places
      ++ range_with_len new.history.found (length new.history.seen - new.history.found)
  pub fills_places : new.fills.places ≡ old.fills.places
      ++ range_with_len new.fills.found (length new.fills.seen - new.fills.found)
  pub same : OnlyAppends first after

-- of each turn its pass tells what it found and what it left
abbrev pub TurnsAreTold : {D : Type 0} → (T : Type 0) → Device D → Type 0
TurnsAreTold {D = D} T device = (first before after : StoreView D) (old new : PassView Item Fill T) →
    Turned device first before after old new → TellsTurn first before after old new

-- a fill is built of a task: its set is of the task's interval and database, and holds what the task's rows give
pub record IsBuiltOf (task : FillTask) (done : BuiltFill) : Type 0 where
  pub interval : done.interval ≡ task.interval
  pub base : done.base ≡ task.base
  pub exponent : done.exponent ≡ task.exponent
  pub mdb : done.mdb ≡ arc_value task.mdb
  pub fits : IsSetOf (arc_value task.mdb) task.exponent task.interval.0 done.set
  pub holds : HoldsRows (arc_value task.mdb) done.set task.rows

-- Where the store tells its rows, what is built of a task is right for the history that its pass has seen when the
-- turn ends in which the task began.
abbrev pub BuiltIsRight : {D : Type 0} → (T : Type 0) → Device D → Type 0
BuiltIsRight {D = D} T device = (first before after : StoreView D) (old new : PassView Item Fill T) (task : FillTask)
    (done : BuiltFill) → TellsRows device first → Turned device first before after old new →
    BeginsTask device before after task → IsBuiltOf task done → IsRightFor (as_seen first new) done

-- It stays so as the pass sees more.
abbrev pub RightStays : {D : Type 0} → (T : Type 0) → Device D → Type 0
RightStays {D = D} T device = (first : StoreView D) (old new : PassView Item Fill T) (done : BuiltFill) →
    IsPrefix old.history.seen new.history.seen → IsRightFor (as_seen first old) done →
    IsRightFor (as_seen first new) done
