-- Rows of a log in memory, over rows that stand in runs.
use Rattle.std.specs.Prelude.{◌≡◌, ℕ, ◌-◌, ◌≤◌, List, [], ◌++◌, filter, length, slice_get, take, Some, true, ◌&&◌}
use Rattle.std.specs.List.{flat_map}
use Rattle.std.specs.declared.snapshot.Snapshot.{Snapshot}
use Rattle.arch_types.specs.declared.key.Key.{Key}
use Rattle.arch_types.specs.declared.row.Row.{Row}
use Rattle.arch_types.specs.History.{has_key, is_in_table}
use Rattle.history_items.specs.declared.items.Item.{Item}
use Rattle.history_items.specs.Items.{items_of}
use Rattle.run_files.specs.declared.run.Run.{Run}
use Rattle.run_pages.specs.Pages.{rows_of_page}
use Rattle.run_pages.specs.Placed.{Placed, behind_positions, rows_of_placed}
use Rattle.run_pages.specs.declared.page_rows.PageRows.{PageRows}
use Rattle.sealed_rows.specs.Rows.{in_order}
use Rattle.sealed_sums.specs.InOrder.{AreInOrder}

-- the runs; their rows as they were told, each at its position; the position of the log's first row; the rows of the log
-- in the order in which they came; all items; how many tables there are; how many more rows may come without memory; and
-- the exponent of the intervals
pub record SealedHistoryView : Type 0 where
  pub runs : List Run
  pub placed : List Placed
  pub base : ℕ
  pub log : List Row
  pub items : List Item
  pub tables : ℕ
  pub room : ℕ
  pub exponent : ℕ

-- the rows that pages were told with, page behind page
abbrev pub rows_told : List (Snapshot PageRows) → List Placed
rows_told told = flat_map (λ page. rows_of_page page.value) told

-- the rows of runs in the order of their positions, and those of a log behind them
abbrev pub items_over : List Placed → List Row → List Item
items_over placed log = items_of (in_order placed ++ log)

-- runs with rows as they were told, and a log without rows that begins at a position
abbrev pub empty_log_over : List Run → List Placed → ℕ → ℕ → ℕ → SealedHistoryView
empty_log_over runs placed base tables exponent = record {
  runs = runs;
  placed = placed;
  base = base;
  log = [];
  items = items_over placed [];
  tables = tables;
  room = 0;
  exponent = exponent;
}

-- all rows that are counted: those of the runs as they were told, and those of the log
abbrev pub counted_rows : SealedHistoryView → List Row
counted_rows h = rows_of_placed h.placed ++ h.log

-- those of a table
abbrev pub counted_in_table : ℕ → SealedHistoryView → List Row
counted_in_table table h = filter (is_in_table table) (counted_rows h)

-- the rows of the log with a position below a front
abbrev pub log_below : ℕ → SealedHistoryView → List Row
log_below front h = take (front - h.base) h.log

-- the row of the log at this position has this table and key
pub record IsRowAt (h : SealedHistoryView) (table : ℕ) (key : Key) (position : ℕ) : Type 0 where
  pub in_log : h.base ≤ position
  pub row : Row
  pub there : slice_get h.log (position - h.base) ≡ Some row
  pub key_is : (is_in_table table row && has_key key row) ≡ true

-- the same runs, with the same rows, below the same log
pub record HasSameRuns (old new : SealedHistoryView) : Type 0 where
  pub runs : new.runs ≡ old.runs
  pub placed : new.placed ≡ old.placed
  pub base : new.base ≡ old.base
  pub tables : new.tables ≡ old.tables
  pub exponent : new.exponent ≡ old.exponent

-- the rows of the runs stand at the positions from 0 to below the log's first, each once, and they and the log's are all
-- items
pub record IsWholeHistory (h : SealedHistoryView) : Type 0 where
  pub base : h.base ≡ length h.placed
  pub placed_in_order : AreInOrder (behind_positions h.placed) (in_order h.placed)
  pub items : h.items ≡ items_over h.placed h.log

-- no row stands in runs: the log has them all
pub record IsPlainHistory (h : SealedHistoryView) : Type 0 where
  pub runs : h.runs ≡ []
  pub placed : h.placed ≡ []
  pub base : h.base ≡ 0
  pub items : h.items ≡ items_of h.log
