-- The answer over an archive with fills.
use Rattle.std.specs.Prelude.{◌≡◌, ℕ, ℤ, List, [], filter, flat_map, fold, length, unwrap_or, Option, Some, None, if◌then◌else◌}
use Rattle.asks.specs.declared.ask.Answer.{Answer}
use Rattle.asks.specs.declared.ask.Request.{Request}
use Rattle.asks.specs.Names.{parameter_number}
use Rattle.arch_types.specs.declared.cell.Cell.{Cell}
use Rattle.intervals.specs.declared.interval.Interval.{Interval}
use Rattle.arch_types.specs.declared.row.Row.{Row}
use Rattle.arch_types.specs.Table.{table_of}
use Rattle.history_items.specs.declared.items.Item.{Item}
use Rattle.history_items.specs.Items.{rows_in}
use Rattle.interval_fills.specs.Intervals.{rows_of_interval}
use Rattle.interval_walks.specs.Counts.{with_interval}
use Rattle.interval_walks.specs.Turns.{meets_range}
use Rattle.mdb_items.specs.Database.{Database}
use Rattle.param_segments.specs.CellRange.{is_cell_in_range}
use Rattle.param_segments.specs.Cells.{set_cells}
use Rattle.param_segments.specs.Rows.{SetRow}
use Rattle.store_fills.specs.Sound.{Filling, Fillings}
use Rattle.container_extract.specs.Answer.{as_asked}
use Rattle.retrieval.specs.AnswerText.{answer_lines}
use Rattle.part_answers.specs.PartCells.{cells_of_rows}
use Rattle.archive_store.specs.LateFills.{is_late_by_fill}

-- the intervals of rows, each once, in the order of their first rows
abbrev pub intervals_of_rows : ℕ → List Row → List Interval
intervals_of_rows exponent rows = fold (with_interval exponent) [] rows

-- The intervals that have rows of `tm` and meet a range of times, in the order of their numbers: that in which the rows of
-- `tm` come in the order of their keys.
abbrev pub intervals_of_range : ℕ → ℤ → ℤ → List Item → List Interval
intervals_of_range exponent low high history =
    filter (meets_range exponent low high) (intervals_of_rows exponent (table_of 0 (rows_in history)))

-- the cells of a parameter that a fill's set has in a range
abbrev pub cells_of_fill : Database → ℕ → ℤ → ℤ → Option (Filling (List SetRow)) → List Cell
cells_of_fill db q low high None = []
cells_of_fill db q low high (Some filling) = filter (is_cell_in_range low high) (set_cells db q filling.set)

-- the cells of a parameter that an interval has in a range: those of its last fill's set, and, where it is late, those
-- that its rows give
abbrev pub cells_of_interval : Database → ℕ → ℤ → ℤ → ℕ → List Item → Fillings (List SetRow) → Interval → List Cell
cells_of_interval db q low high exponent history fillings interval =
    if is_late_by_fill exponent history fillings interval
    then cells_of_rows db q low high (rows_of_interval exponent interval history)
    else cells_of_fill db q low high (fillings interval)

-- the cells that a request asks of a history with fills
abbrev pub filled_answer : Database → ℕ → Request → ℕ → List Item → Fillings (List SetRow) → List Cell
filled_answer db number request exponent history fillings =
    as_asked request (flat_map (cells_of_interval db number request.from request.to exponent history fillings)
    (intervals_of_range exponent request.from request.to history))

-- the answer to a request over a database, which has its parameter, and a history with fills
pub record IsFilledAnswer (db : Database) (exponent : ℕ) (history : List Item) (fillings : Fillings (List SetRow))
    (request : Request) (answer : Answer) : Type 0 where
  pub front : answer.front ≡ length history
  pub number : ℕ
  pub named : parameter_number db request.parameter ≡ Some number
  pub cells : answer.cells ≡ filled_answer db number request exponent history fillings

-- the text of the answer to a request, the ask with a number
abbrev pub request_text : Database → ℕ → List Item → Fillings (List SetRow) → ℕ → Request → List ℕ
request_text db exponent history fillings k request =
    let number = unwrap_or (parameter_number db request.parameter) 0 in
    answer_lines k (length history) db number (filled_answer db number request exponent history fillings)
