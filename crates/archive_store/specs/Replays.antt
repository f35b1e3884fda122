-- What a store answers of replays and of the partitions of a table.
use Rattle.std.specs.Prelude.{◌≡◌, ◌↔◌, ℕ, ◌<◌, IsTrue, List, length, Some, Contains}
use Rattle.std.specs.List.{AllByRecursion}
use mathlib.Core.List.{IsPrefix}
use Rattle.arch_disk.specs.Disk.{Device}
use Rattle.asks.specs.declared.ask.ReplayRequest.{ReplayRequest}
use Rattle.asks.specs.Names.{table_number}
use Rattle.arch_types.specs.declared.row.Row.{Row}
use Rattle.history_items.specs.declared.items.Item.{Item}
use Rattle.history_items.specs.Items.{prefix, rows_in}
use Rattle.history_items.specs.Databases.{names_in}
use Rattle.partitions.specs.Rows.{partitions_of}
use Rattle.archive_history.specs.History.{HistoryView, rows_in_table}
use Rattle.partitions.specs.declared.bounds.Bounds.{Bounds}
use Rattle.partitions.specs.declared.partition.Partition.{Partition}
use Rattle.partitions.specs.Bounds.{MayHold}
use Rattle.partitions.specs.Partitions.{AreRising}
use Rattle.replay_merge.specs.Cursor.{CursorView, rest_of}
use Rattle.replay_merge.specs.Replay.{replay_of}
use Rattle.replay_merge.specs.RowSource.{RowSourceState, told_if}
use Rattle.archive_images.specs.declared.head.Head.{Head}
use Rattle.archive_images.specs.Entries.{IsArchivedRow}
use Rattle.archive_store.specs.Pages.{HasPages, is_told}
use Rattle.archive_store.specs.StoreView.{StoreView}

-- ---- the store as a source of rows

-- the rows of a history below each front
abbrev pub rows_below : List Item → ℕ → List Row
rows_below history front = rows_in (prefix front history)

-- a row that a store may give: one of its own, where it tells them, and always one that its archive may have
pub record MayGive {D : Type 0} (device : Device D) (store : StoreView D) (row : Row) : Type 0 where
  pub own : IsTrue (is_told device store) → Contains (rows_in store.history) row
  pub archived : IsArchivedRow store.head store.history row

-- It tells its rows unless they stand on pages of a disk that doesn't tell what it holds. It may fail where some stand on
-- pages, and its faults are the disk's.
abbrev pub source_state : {D : Type 0} → Device D → StoreView D → RowSourceState
source_state device store = record {
  history = told_if (is_told device store) (rows_below store.history);
  may_give = MayGive device store;
  may_fail = HasPages store;
  faults = device.fault_count store.disk;
}

-- the rows of a history in memory are told, it gives no others, and reading them never fails
abbrev pub memory_state : List Item → RowSourceState
memory_state history = record {
  history = Some (rows_below history);
  may_give = Contains (rows_in history);
  may_fail = ⊥;
  faults = 0;
}

-- a history in memory whose rows are those that a store gives, with a table for each name of the head
pub record IsStoredHistory (head : Head) (history : HistoryView) : Type 0 where
  pub tables : history.tables ≡ length head.tables
  pub rows : AllByRecursion (IsArchivedRow head history.items) (rows_in history.items)

-- ---- replays

-- A cursor at the front of a history, before the replay of the request over it, also once more items came to the
-- history.
pub record IsReplayOpened (head : Head) (history : List Item) (request : ReplayRequest) (c : CursorView) : Type 0 where
  pub table : table_number head.tables request.table ≡ Some c.table
  pub front : c.front ≡ length history
  pub replay : (later : List Item) → IsPrefix history later →
      rest_of c (rows_below later) ≡ replay_of (names_in head.mdb history) c.table request (rows_in history)

-- ---- partitions

-- the partitions of the rows of a table that may hold one in the bounds, each once, in order
pub record ArePartitions (history : List Item) (table : ℕ) (bounds : Bounds) (parts : List Partition) : Type 0 where
  pub exactly : (p : Partition) → Contains parts p
      ↔ (Contains (partitions_of (rows_in_table table history)) p × MayHold bounds p)
  pub rising : AreRising parts

-- the packet name of a partition is one of the history
abbrev pub IsNamedPartition : Head → List Item → Partition → Type 0
IsNamedPartition head history partition = partition.pname < length (names_in head.mdb history)
