-- How the journals of a store, its runs and its history go together.
use Rattle.std.specs.Prelude.{◌≡◌, ◌<◌, IsTrue, [], Option, Some, None}
use Rattle.std.specs.List.{AllByRecursion}
use Rattle.arch_disk.specs.Disk.{Device}
use Rattle.arch_types.specs.History.{IsHistory}
use Rattle.archive_history.specs.Limits.{IsWithin}
use Rattle.disk_journal.specs.State.{file_of}
use Rattle.disk_journal.specs.declared.journal.Journal.{Journal}
use Rattle.history_items.specs.Items.{rows_in}
use Rattle.run_files.specs.Run.{run_file}
use Rattle.sealed_history.specs.Held.{HoldRuns}
use Rattle.sealed_history.specs.SealedHistory.{IsWholeHistory, SealedHistoryView}

-- Without a manifest file 0 is the log, and nothing stands in runs; with one the runs stand in files between file 0 and
-- the log. The rows of both are the history, within its limits, and no table has a key twice where the disk tells.
pub record SealedInvariant {D : Type 0} (device : Device D) (disk : D) (manifest : Option Journal) (log : Journal)
    (history : SealedHistoryView) : Type 0 where
  pub plain : manifest ≡ None → (file_of log ≡ 0) × (history.runs ≡ []) × (history.placed ≡ [])
  pub zero : (seals : Journal) → manifest ≡ Some seals → (file_of seals ≡ 0) × (0 < file_of log)
  pub whole : IsWholeHistory history
  pub below : AllByRecursion (λ run. (0 < run_file run) × (run_file run < file_of log)) history.runs
  pub on_disk : IsTrue device.is_transparent → HoldRuns device history.runs history.placed disk
  pub within : IsWithin history.exponent (rows_in history.items)
  pub once : IsTrue device.is_transparent → IsHistory (rows_in history.items)
