-- What begins and installs do to a live archive, and which tasks are a filler's own.
use Rattle.std.specs.Prelude.{◌≡◌, ◌⊎◌, ℕ, List, Option, Result, Err}
use mathlib.Core.List.{IsPrefix}
use Rattle.arch_disk.specs.Disk.{Device}
use Rattle.arch_types.specs.declared.inserted.Installed.{Installed}
use Rattle.intervals.specs.declared.interval.Interval.{Interval}
use Rattle.refusals.specs.declared.refusal.Refusal.{Refusal}
use Rattle.refusals.specs.declared.refusal.Refusal.TheVariants.{OutOfMemory}
use Rattle.history_items.specs.declared.fills.Fill.{Fill}
use Rattle.history_items.specs.declared.items.Item.{Item}
use Rattle.history_items.specs.Late.{IsLate}
use Rattle.interval_fills.specs.Steps.{freed}
use Rattle.store_fills.specs.declared.task.FillTask.{FillTask}
use Rattle.store_fills.specs.Built.{BuiltFill, IsTaskRows}
use Rattle.turn_cell.specs.Pass.{PassView}
use Rattle.archive_store.specs.Installs.{IsRightFor}
use Rattle.archive_store.specs.Pages.{TellsRows}
use Rattle.archive_store.specs.StoreView.{StoreView}
use Rattle.live_archive.specs.Answers.{SaysBegun, SaysInstalled}
use Rattle.live_archive.specs.Laws.{IsBuiltOf}
use Rattle.live_archive.specs.Turns.{TookTurn, as_seen}

-- ---- tasks

-- an interval was late in some beginning of a history, by some beginning of a fill list that has the first items
pub record WasLate (exponent : ℕ) (first : List Fill) (history : List Item) (fills : List Fill) (interval : Interval)
    : Type 0 where
  pub front : List Item
  pub noted : List Fill
  pub begins : IsPrefix front history
  pub since : IsPrefix first noted
  pub fills_begin : IsPrefix noted fills
  pub late : IsLate exponent interval front noted

-- A task of a late interval, with its rows in order. Where the store tells its rows, whatever is built of it is right
-- for the history that the pass has seen.
pub record IsOwnTask {D T : Type 0} (device : Device D) (first : StoreView D) (pass : PassView Item Fill T)
    (task : FillTask) : Type 0 where
  pub in_order : IsTaskRows task.exponent task.interval task.rows
  pub late : WasLate first.exponent first.fills pass.history.seen pass.fills.seen task.interval
  pub right : TellsRows device first → (done : BuiltFill) → IsBuiltOf task done → IsRightFor (as_seen first pass) done

-- ---- turns

module _ {D T : Type 0} (device : Device D) (first : StoreView D) where
  -- a begin, in a turn of the pass
  abbrev pub BeginsInTurn : PassView Item Fill T → Result (Option FillTask) Refusal → PassView Item Fill T → Type 0
  BeginsInTurn old answer new = TookTurn device first old new (SaysBegun device answer)

  -- the end of a task without a fill, in a turn
  abbrev pub GivesUpInTurn : PassView Item Fill T → FillTask → PassView Item Fill T → Type 0
  GivesUpInTurn old task new =
      TookTurn device first old new (λ before after. after ≡ record before { fills = freed task.interval before.fills })

  -- an install of what was built of a task, in a turn
  abbrev pub BuildsAndInstalls
      : PassView Item Fill T → FillTask → Result Installed Refusal → PassView Item Fill T → Type 0
  BuildsAndInstalls old task answer new =
      (done : BuiltFill) × IsBuiltOf task done × TookTurn device first old new (SaysInstalled device done answer)

  -- what becomes of a task of the pass's own: it is built and installed, or given up where memory was wanting to build
  -- it
  pub record InstallsInTurn (old : PassView Item Fill T) (task : FillTask) (answer : Result Installed Refusal)
      (new : PassView Item Fill T) : Type 0 where
    pub own : IsOwnTask device first old task
    pub turn : BuildsAndInstalls old task answer new ⊎ ((answer ≡ Err OutOfMemory) × GivesUpInTurn old task new)
