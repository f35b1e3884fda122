-- How a fill begins.
use Rattle.std.specs.Prelude.{◌≡◌, ◌++◌, ◌∷◌, [], length, Option, Some, None}
use Rattle.std.specs.Arc.{arc_value}
use Rattle.arch_disk.specs.Disk.{Device}
use Rattle.history_items.specs.declared.fills.Fill.TheVariants.{Begun}
use Rattle.history_items.specs.Databases.{database_in}
use Rattle.interval_fills.specs.Steps.{MachineState, AllLateInFlight, BeginsFill, IsNextToFill, state_of}
use Rattle.store_fills.specs.declared.task.FillTask.{FillTask}
use Rattle.archive_store.specs.Pages.{TellsRows}
use Rattle.archive_store.specs.StoreView.{StoreView}
use Rattle.archive_store.specs.UnreadRows.{ReadsRows}

-- a store as a state of the plain machine
abbrev pub machine_state : {D : Type 0} → StoreView D → MachineState
machine_state store = state_of store.history store.fills

-- A fill of the next interval began as this task says, under the database in force: of the interval's rows, where the
-- store tells its rows. But for the fill list, all is as rows that were read leave it.
pub record BeginsTask {D : Type 0} (device : Device D) (old new : StoreView D) (task : FillTask) : Type 0 where
  pub next : IsNextToFill old.exponent (machine_state old) (Some task.interval)
  pub step : TellsRows device old →
      BeginsFill old.exponent (machine_state old) task.interval task.base task.rows (machine_state new)
  pub base : task.base ≡ length old.history
  pub fills : new.fills ≡ old.fills ++ Begun task.interval task.base ∷ []
  pub mdb : arc_value task.mdb ≡ database_in old.head.mdb old.history
  pub exponent : task.exponent ≡ old.exponent
  pub reads : ReadsRows device old (record new { fills = old.fills })

-- the fill of the next interval began, or none, since each late interval is in flight
abbrev pub IsFillBegun : {D : Type 0} → Device D → StoreView D → StoreView D → Option FillTask → Type 0
IsFillBegun device old new None = AllLateInFlight old.exponent (machine_state old) × (new ≡ old)
IsFillBegun device old new (Some task) = BeginsTask device old new task
