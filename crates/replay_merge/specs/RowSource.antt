-- What a source of rows tells, and what it gives.
use Rattle.std.specs.Prelude.{◌≡◌, ◌≤◌, ◌+◌, ◌&&◌, ℕ, ℤ, Bool, List, filter, Option, Some, None, IsNone, true, false}
use Rattle.std.specs.List.{AllByRecursion, list_any}
use Rattle.std.specs.List.Sorted.{IsSortedByKey, IsStrictlySortedBy}
use Rattle.text_forms.specs.ClockTime.{IsClockTime}
use Rattle.arch_types.specs.declared.key.Key.{Key}
use Rattle.arch_types.specs.declared.row.Row.{Row}
use Rattle.arch_types.specs.declared.row_fault.RowFault.{RowFault}
use Rattle.arch_types.specs.declared.row_fault.RowFault.TheVariants.{DiskFault, Damaged, OutOfMemory}
use Rattle.arch_types.specs.Packet.{IsPacket}
use Rattle.arch_types.specs.GenerationTime.{key_of}
use Rattle.arch_types.specs.Order.{key_cmp}
use Rattle.arch_types.specs.History.{IsHistory, has_key, is_in_table}
use Rattle.arch_types.specs.Table.{is_in_time_range, range_of, table_of}
use Rattle.arch_disk.specs.Disk.{raised}
use Rattle.partitions.specs.declared.partition.Partition.{Partition}
use Rattle.partitions.specs.Rows.{is_of_partition, is_of_parts}

-- the history that a source tells, by the rows below each front in the order in which they came to stay, the rows that it
-- may give, also where it tells none, whether it may fail at all, for something else than want of memory, and how often it
-- has failed: whatever else has a position, a front counts it too
pub record RowSourceState : Type 1 where
  pub history : Option (ℕ → List Row)
  pub may_give : Row → Type 0
  pub may_fail : Type 0
  pub faults : ℕ

-- a history, where it is told
abbrev pub told_if : Bool → (ℕ → List Row) → Option (ℕ → List Row)
told_if false history = None
told_if true history = Some history

-- a whole packet, received within the clock's range, with the key that it gives then
pub record IsKeyedRow (row : Row) : Type 0 where
  pub packet : IsPacket row.packet
  pub rectime : IsClockTime row.rectime
  pub key : row.key ≡ key_of row.packet row.rectime

-- a history of such rows
pub record IsRowSourceHistory (history : List Row) : Type 0 where
  pub once : IsHistory history
  pub each : AllByRecursion IsKeyedRow history

-- those below each front are one
abbrev pub AreRowSourceHistories : (ℕ → List Row) → Type 0
AreRowSourceHistories history = (front : ℕ) → IsRowSourceHistory (history front)

-- the rows of a partition of a table, in the order of their keys
abbrev pub rows_of_partition : ℕ → Partition → List Row → List Row
rows_of_partition table partition rows = filter (is_of_partition partition) (table_of table rows)

-- those of several partitions with from <= time < to, in the order of their keys
abbrev pub range_of_parts : ℕ → List Partition → ℤ → ℤ → List Row → List Row
range_of_parts table parts from to rows = filter (is_of_parts parts) (range_of table from to rows)

-- such a row of a table and a partition
pub record IsRowOf (table : ℕ) (partition : Partition) (row : Row) : Type 0 where
  pub keyed : IsKeyedRow row
  pub in_table : row.table ≡ table
  pub in_partition : is_of_partition partition row ≡ true

-- such rows, each with a key below those of the rows after it
pub record AreRowsOf (table : ℕ) (partition : Partition) (rows : List Row) : Type 0 where
  pub each : AllByRecursion (IsRowOf table partition) rows
  pub rising : IsStrictlySortedBy (λ (a b : Row). key_cmp a.key b.key) rows

-- such a row of a table, of one of some partitions, with from <= time < to
pub record IsRowBetween (table : ℕ) (parts : List Partition) (from to : ℤ) (row : Row) : Type 0 where
  pub keyed : IsKeyedRow row
  pub in_table : row.table ≡ table
  pub in_parts : is_of_parts parts row ≡ true
  pub in_range : is_in_time_range from to row ≡ true

-- such a row of a table with from <= time < to
pub record IsRowIn (table : ℕ) (from to : ℤ) (row : Row) : Type 0 where
  pub keyed : IsKeyedRow row
  pub in_table : row.table ≡ table
  pub in_range : is_in_time_range from to row ≡ true

-- such rows, each with a key below those of the rows after it
pub record AreRowsIn (table : ℕ) (from to : ℤ) (rows : List Row) : Type 0 where
  pub each : AllByRecursion (IsRowIn table from to) rows
  pub rising : IsStrictlySortedBy (λ (a b : Row). key_cmp a.key b.key) rows

-- whether one of the rows of a table has a key
abbrev pub has_row_at : ℕ → Key → List Row → Bool
has_row_at table key rows = list_any (λ row. is_in_table table row && has_key key row) rows

-- The position of the row that has a key in a table, by the rows below each front: the row isn't below that front yet, and below the
-- next one it is. Where there is none, it is below no front.
abbrev pub IsPositionOf : (ℕ → List Row) → ℕ → Key → Option ℕ → Type 0
IsPositionOf history table key (Some position) =
    (has_row_at table key (history position) ≡ false) × (has_row_at table key (history (position + 1)) ≡ true)
IsPositionOf history table key None = (front : ℕ) → has_row_at table key (history front) ≡ false

-- no row's key is below that of the row before it
abbrev pub AreInKeyOrder : List Row → Type 0
AreInKeyOrder rows = IsSortedByKey (λ (row : Row). row.key) key_cmp rows

-- A source that may fail gives no rows for a fault where its count has risen, and for damage where it doesn't tell its rows;
-- any gives none for want of memory. For these two its count stays.
abbrev pub IsRowFault : RowSourceState → RowSourceState → RowFault → Type 0
IsRowFault old new DiskFault = old.may_fail × (raised old.faults ≤ new.faults)
IsRowFault old new (Damaged file at) = old.may_fail × IsNone old.history × (new.faults ≡ old.faults)
IsRowFault old new OutOfMemory = new.faults ≡ old.faults

-- a source tells what it told, it may give no other rows, it may fail only where it might, and its count of faults hasn't fallen
pub record UsedRowSource (old new : RowSourceState) : Type 0 where
  pub told : new.history ≡ old.history
  pub no_others : (row : Row) → new.may_give row → old.may_give row
  pub no_other_fault : new.may_fail → old.may_fail
  pub later : old.faults ≤ new.faults
