-- A source in memory.
use Rattle.std.specs.Prelude.{List, take, Contains, Option, Some, None, Bool, true, false, ◌&&◌, ℕ, ℤ}
use Rattle.arch_types.specs.declared.row.Row.{Row}
use Rattle.arch_types.specs.History.{is_in_table}
use Rattle.arch_types.specs.Table.{is_in_time_range}
use Rattle.partitions.specs.declared.partition.Partition.{Partition}
use Rattle.partitions.specs.Rows.{is_of_partition}
use Rattle.replay_merge.specs.RowSource.{RowSourceState}

-- what contracts see of a source: its rows, whether it tells them, and how often it has failed
pub record MemSourceView : Type 0 where
  pub rows : List Row
  pub is_known : Bool
  pub faults : ℕ

-- the rows below each front, where they are told
abbrev pub rows_at_fronts : Bool → List Row → Option (ℕ → List Row)
rows_at_fronts true rows = Some (λ front. take front rows)
rows_at_fronts false rows = None

-- it gives its own rows alone, also where it tells none, and it may fail
abbrev pub mem_source_state : MemSourceView → RowSourceState
mem_source_state s = record { history = rows_at_fronts s.is_known s.rows; may_give = Contains s.rows; may_fail = Unit {0}; faults = s.faults }

-- whether a row is of a table and a partition
abbrev pub is_in_table_and_partition : ℕ → Partition → Row → Bool
is_in_table_and_partition table partition row = is_in_table table row && is_of_partition partition row

-- whether a row is of a table, with from <= time < to
abbrev pub is_in_table_and_range : ℕ → ℤ → ℤ → Row → Bool
is_in_table_and_range table from to row = is_in_table table row && is_in_time_range from to row
