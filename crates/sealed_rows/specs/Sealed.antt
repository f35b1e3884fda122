-- What a source of sealed rows tells.
use Rattle.std.specs.Prelude.{IsTrue, List}
use Rattle.std.specs.Borrow.{MutBor}
use Rattle.std.specs.List.{Contains}
use Rattle.arch_disk.specs.Disk.{Device}
use Rattle.replay_merge.specs.RowSource.{AreRowSourceHistories, RowSourceState, told_if}
use Rattle.run_pages.specs.Placed.{rows_of_placed}
use Rattle.run_files.specs.declared.run.Run.{Run}
use Rattle.sealed_rows.specs.Rows.{rows_below, rows_of_runs}
use Rattle.sealed_rows.specs.Calls.{AreRunsOn}

-- The rows of all runs, where the disk tells what it holds; then it gives no others. It may fail, and its faults are the
-- disk's.
abbrev pub sealed_state : {D : Type 0} → Device D → List Run → D → RowSourceState
sealed_state device runs disk =
    let placed = rows_of_runs (device.reads disk) runs in
    record {
      history = told_if device.is_transparent (rows_below placed);
      may_give = λ row. IsTrue device.is_transparent → Contains (rows_of_placed placed) row;
      may_fail = Unit {0};
      faults = device.fault_count disk;
    }

-- each run has its rows on the disk, and those of all with a position below any front are a history
pub record AreSealed {D : Type 0} (device : Device D) (runs : List Run) (disk : D) : Type 0 where
  pub held : AreRunsOn device runs disk
  pub histories : AreRowSourceHistories (rows_below (rows_of_runs (device.reads disk) runs))

-- the runs, and the disk as it is borrowed
pub record SealedView (D : Type 0) : Type 0 where
  pub runs : List Run
  pub disk : MutBor D

-- the same of its parts
abbrev pub sealed_view : {D : Type 0} → List Run → MutBor D → SealedView D
sealed_view runs disk = record { runs = runs; disk = disk }
