-- The limits of a history.
use Rattle.std.specs.Prelude.{ℕ, ◌+◌, ◌<◌, ◌≤◌, List, [], ◌∷◌, ◌++◌, length, filter}
use Rattle.arch_types.specs.declared.row.Row.{Row}
use Rattle.intervals.specs.declared.interval.Interval.{Interval}
use Rattle.history_items.specs.Items.{is_of_interval}
use Rattle.archive_history.specs.RowLimits.{row_limit}
use Rattle.archive_history.specs.declared.row_limit.RowLimit.{RowLimit}
use Rattle.archive_history.specs.declared.row_limit.RowLimit.TheVariants.{Rows, HistoryOctets, IntervalRows}

-- the octets of the packets of rows
abbrev pub octets_of : List Row → ℕ
octets_of [] = 0
octets_of (row ∷ rows) = length row.packet + octets_of rows

-- how many rows of table `tm` have their time in the interval
abbrev pub interval_rows : ℕ → Interval → List Row → ℕ
interval_rows exponent interval rows = length (filter (is_of_interval exponent interval) rows)

-- the rows of a history pass none of the limits
pub record IsWithin (exponent : ℕ) (rows : List Row) : Type 0 where
  pub few : length rows ≤ row_limit Rows
  pub octets : octets_of rows ≤ row_limit HistoryOctets
  pub intervals : (interval : Interval) → interval_rows exponent interval rows ≤ row_limit IntervalRows

-- this is the first limit that the rows of a history pass
abbrev pub PassesFirst : ℕ → RowLimit → List Row → Type 0
PassesFirst exponent Rows rows = row_limit Rows < length rows
PassesFirst exponent HistoryOctets rows =
    (length rows ≤ row_limit Rows) × (row_limit HistoryOctets < octets_of rows)
PassesFirst exponent IntervalRows rows =
    (length rows ≤ row_limit Rows) × (octets_of rows ≤ row_limit HistoryOctets)
    × (interval : Interval) × (row_limit IntervalRows < interval_rows exponent interval rows)

-- Rows of runs, and rows of a log behind so many, pass none of the limits. The number may be another one than that of the rows of the runs: it is what their seal says.
pub record IsWithinOver (exponent base : ℕ) (in_runs log : List Row) : Type 0 where
  pub few : base + length log ≤ row_limit Rows
  pub octets : octets_of (in_runs ++ log) ≤ row_limit HistoryOctets
  pub intervals : (interval : Interval) → interval_rows exponent interval (in_runs ++ log) ≤ row_limit IntervalRows

-- this is the first limit that they pass
abbrev pub PassesFirstOver : ℕ → ℕ → RowLimit → List Row → List Row → Type 0
PassesFirstOver exponent base Rows in_runs log = row_limit Rows < base + length log
PassesFirstOver exponent base HistoryOctets in_runs log =
    (base + length log ≤ row_limit Rows) × (row_limit HistoryOctets < octets_of (in_runs ++ log))
PassesFirstOver exponent base IntervalRows in_runs log =
    (base + length log ≤ row_limit Rows) × (octets_of (in_runs ++ log) ≤ row_limit HistoryOctets)
    × (interval : Interval) × (row_limit IntervalRows < interval_rows exponent interval (in_runs ++ log))
