-- A history in memory.
use Rattle.std.specs.Prelude.{◌≡◌, ℕ, ℤ, ◌≤◌, ◌&&◌, ◌==◌, List, filter, Bool}
use Rattle.std.specs.Global.{Vec}
use Rattle.std.specs.declared.snapshot.Snapshot.{Snapshot}
use Rattle.std.specs.Ordering.{is_eq}
use Rattle.intervals.specs.declared.interval.Interval.{Interval}
use Rattle.arch_types.specs.declared.key.Key.{Key}
use Rattle.arch_types.specs.declared.row.Row.{Row}
use Rattle.arch_types.specs.History.{IsHistory, is_in_table}
use Rattle.arch_types.specs.Order.{key_cmp}
use Rattle.arch_types.specs.Table.{range_of, table_of}
use Rattle.history_items.specs.declared.items.Item.{Item}
use Rattle.history_items.specs.Items.{is_row_with, rows_in}
use Rattle.partitions.specs.declared.partition.Partition.{Partition}
use Rattle.partitions.specs.Rows.{is_of_partition, is_of_parts}
use Rattle.yarch_table.specs.Stored.{TableView}
use Rattle.archive_history.specs.Limits.{octets_of, interval_rows, IsWithin}
use Rattle.archive_history.specs.LimitCounts.{LimitCountsView, interval_row_count}
use Rattle.archive_history.specs.Tables.{AreRowTables, items_in}

-- the items of a history, how many tables there are, how many more rows may come without memory, and the exponent of its
-- intervals
pub record HistoryView : Type 0 where
  pub items : List Item
  pub tables : ℕ
  pub room : ℕ
  pub exponent : ℕ

-- whether an item is the row of that table and key
abbrev pub is_at_key : ℕ → Key → Item → Bool
is_at_key table key = is_row_with (λ row. (table == row.table) && is_eq (key_cmp key row.key))

-- the rows of a table, in the order of the history
abbrev pub rows_in_table : ℕ → List Item → List Row
rows_in_table table items = filter (is_in_table table) (rows_in items)

-- the rows of a partition of a table among items, in the order of their keys
abbrev pub rows_in_partition : ℕ → Partition → List Item → List Row
rows_in_partition table partition items = filter (is_of_partition partition) (table_of table (rows_in items))

-- those of several partitions with from <= time < to, in the order of their keys
abbrev pub rows_in_parts : ℕ → List Partition → ℤ → ℤ → List Item → List Row
rows_in_parts table parts from to items = filter (is_of_parts parts) (range_of table from to (rows_in items))

-- the rows are a history that passes no limit, and the counts are theirs, with room for more
pub record AreCounted (exponent : ℕ) (items : List Item) (room : ℕ) (limit_counts : LimitCountsView) : Type 0 where
  pub history : IsHistory (rows_in items)
  pub within : IsWithin exponent (rows_in items)
  pub octets : limit_counts.octets ≡ octets_of (rows_in items)
  pub rows : (interval : Interval) →
      interval_row_count limit_counts.rows interval ≡ interval_rows exponent interval (rows_in items)
  pub has_room : room ≤ limit_counts.room

-- the tables hold all rows in their order, and the counts are those of these rows
pub record HistoryInvariant (tables : List TableView) (order : Vec (Snapshot Row)) (room exponent : ℕ)
    (limit_counts : LimitCountsView) : Type 0 where
  pub tables_hold : AreRowTables 0 tables order room
  pub counted : AreCounted exponent (items_in order.items) room limit_counts
