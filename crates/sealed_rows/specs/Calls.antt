-- What is answered of the rows of runs.
use Rattle.std.specs.Prelude.{◌≡◌, ℕ, ◌≤◌, IsTrue, List, Option, Some, None, true, false}
use Rattle.std.specs.List.{AllByRecursion, Contains}
use Rattle.std.specs.Ordering.{is_lt}
use Rattle.arch_disk.specs.Disk.{Device, NoFault, raised}
use Rattle.arch_types.specs.declared.key.Key.{Key}
use Rattle.arch_types.specs.declared.row.Row.{Row}
use Rattle.arch_types.specs.declared.row_fault.RowFault.{RowFault}
use Rattle.arch_types.specs.declared.row_fault.RowFault.TheVariants as row_faults
use Rattle.arch_types.specs.Order.{key_cmp}
use Rattle.run_pages.specs.Placed.{Placed, row_placed}
use Rattle.run_files.specs.Run.{IsRunOn}
use Rattle.run_files.specs.declared.run.Run.{Run}
use Rattle.run_files.specs.declared.fault.RunFault.{RunFault}
use Rattle.run_files.specs.declared.fault.RunFault.TheVariants as run_faults
use Rattle.sealed_rows.specs.Wanted.{is_in_times}
use Rattle.sealed_rows.specs.declared.wanted.Times.{Times}

-- each run has its rows on a disk, whatever these are
abbrev pub AreRunsOn : {D : Type 0} → Device D → List Run → D → Type 0
AreRunsOn device runs disk = AllByRecursion (λ run. IsRunOn device run disk) runs

-- a run's refusal of a page as one of rows; Limit is that of a run that is opened alone
abbrev pub row_fault : RunFault → RowFault
row_fault (run_faults.Damaged file at) = row_faults.Damaged file at
row_fault (run_faults.DiskFault wrote) = row_faults.DiskFault
row_fault run_faults.Limit = row_faults.OutOfMemory
row_fault run_faults.OutOfMemory = row_faults.OutOfMemory

-- A read failed, which the count of faults tells, or memory is wanting; on a disk that tells what it holds it is never
-- damage. For damage and want of memory no call failed.
abbrev pub IsReadFault : {D : Type 0} → Device D → D → D → RowFault → Type 0
IsReadFault device before after row_faults.DiskFault = raised (device.fault_count before) ≤ device.fault_count after
IsReadFault device before after (row_faults.Damaged file at) =
    (IsTrue device.is_transparent → ⊥) × NoFault device before after
IsReadFault device before after row_faults.OutOfMemory = NoFault device before after

-- a row's key is below this one
abbrev pub IsBelowKey : Key → Placed → Type 0
IsBelowKey key at = is_lt (key_cmp at.row.key key) ≡ true

-- a row's key is above this one
abbrev pub IsAboveKey : Key → Placed → Type 0
IsAboveKey key at = is_lt (key_cmp key at.row.key) ≡ true

-- a row's time is none of these
abbrev pub IsOutside : Times → Placed → Type 0
IsOutside times at = is_in_times times at.row ≡ false

-- the position of the row of a table that has a key, or none where no row has it
abbrev pub IsPlaceOf : List Placed → ℕ → Key → Option ℕ → Type 0
IsPlaceOf placed table key (Some position) =
    (row : Row) × (row.table ≡ table) × (row.key ≡ key) × Contains placed (row_placed position row)
IsPlaceOf placed table key None =
    (at : Placed) → Contains placed at → at.row.table ≡ table → at.row.key ≡ key → ⊥
