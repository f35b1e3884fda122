-- Fills that are right for a history.
use Rattle.std.specs.Prelude.{◌≡◌, ℕ, List}
use Rattle.std.specs.List.{filter_map}
use Rattle.intervals.specs.declared.interval.Interval.{Interval}
use Rattle.arch_types.specs.declared.row.Row.{Row}
use Rattle.history_items.specs.declared.items.Item.{Item}
use Rattle.history_items.specs.Items.{prefix}
use Rattle.history_items.specs.Databases.{database_in}
use Rattle.mdb_items.specs.Database.{Database}
use Rattle.container_extract.specs.Extraction.{cell_of}
use Rattle.interval_fills.specs.Intervals.{rows_of_interval}
use Rattle.interval_fills.specs.Steps.{IsFillBase}
use Rattle.param_segments.specs.Cells.{set_cells}
use Rattle.param_segments.specs.Extracted.{IsSetOf}
use Rattle.param_segments.specs.Rows.{SetRow}

-- a set holds the cells that rows give of each parameter
abbrev pub HoldsRows : Database → List SetRow → List Row → Type 0
HoldsRows db set rows = (q : ℕ) → set_cells db q set ≡ filter_map (cell_of db q) rows

-- a fill that is right for a history whose head has the first database: its base is one that a fill of the interval may
-- have, and its set, one of the interval and of the database in force there, holds the cells of the interval's rows below
pub record IsRightFill (exponent : ℕ) (first : Database) (history : List Item) (interval : Interval) (base : ℕ)
    (set : List SetRow) : Type 0 where
  pub may : IsFillBase exponent interval base history
  pub fits : IsSetOf (database_in first (prefix base history)) exponent interval.0 set
  pub holds : HoldsRows (database_in first (prefix base history)) set
      (rows_of_interval exponent interval (prefix base history))
