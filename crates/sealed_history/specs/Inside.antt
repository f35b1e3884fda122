-- What the fields of a sealed history have to do with each other.
use Rattle.std.specs.Prelude.{◌≡◌, ◌⊎◌, ◌≤◌, ℕ, List, [], length}
use Rattle.arch_types.specs.declared.row.Row.{Row}
use Rattle.intervals.specs.declared.interval.Interval.{Interval}
use Rattle.intervals.specs.Interval.{interval_of}
use Rattle.archive_history.specs.RowLimits.{row_limit}
use Rattle.archive_history.specs.declared.row_limit.RowLimit.TheVariants.{IntervalRows}
use Rattle.std.specs.declared.snapshot.Snapshot.{Snapshot}
use Rattle.archive_history.specs.History.{HistoryView}
use Rattle.archive_history.specs.Limits.{IsWithinOver, interval_rows}
use Rattle.history_items.specs.Items.{items_of, rows_in}
use Rattle.run_files.specs.declared.run.Run.{Run}
use Rattle.run_pages.specs.Placed.{Placed, rows_of_placed}
use Rattle.run_pages.specs.declared.page_rows.PageRows.{PageRows}
use Rattle.sealed_sums.specs.Sums.{AreSumsOf, SumsView}
use Rattle.sealed_history.specs.SealedHistory.{SealedHistoryView, items_over, rows_told}

-- what contracts see of runs, the pages that they were told with, and a log behind a position
abbrev pub view_over : List Run → List (Snapshot PageRows) → ℕ → HistoryView → SealedHistoryView
view_over runs told base log = record {
  runs = runs;
  placed = rows_told told;
  base = base;
  log = rows_in log.items;
  items = items_over (rows_told told) (rows_in log.items);
  tables = log.tables;
  room = log.room;
  exponent = log.exponent;
}

-- The sums are those of the rows as they were told, of the log's tables and intervals. The log has rows alone; where it
-- has any, all rows are within the limits.
pub record AreTogether (placed : List Placed) (base : ℕ) (sums : SumsView) (log : HistoryView) : Type 0 where
  pub sums_are : AreSumsOf (rows_of_placed placed) sums
  pub exponent : sums.exponent ≡ log.exponent
  pub tables : length sums.tables ≡ log.tables
  pub rows_alone : log.items ≡ items_of (rows_in log.items)
  pub within : (rows_in log.items ≡ []) ⊎ IsWithinOver log.exponent base (rows_of_placed placed) (rows_in log.items)

-- the interval of this row, if it is of table `tm`, has few enough of all rows
abbrev pub IsAmongFew : ℕ → List Row → Row → Type 0
IsAmongFew exponent all row =
    row.table ≡ 0 → (interval : Interval) → interval.0 ≡ interval_of exponent row.key.time →
    interval_rows exponent interval all ≤ row_limit IntervalRows
