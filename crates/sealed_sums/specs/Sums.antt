-- What rows of all tables come to, before they are a history.
use Rattle.std.specs.Prelude.{◌≡◌, ℕ, ◌*◌, ◌≤◌, List, length, filter, slice_get, Some}
use Rattle.arch_types.specs.declared.row.Row.{Row}
use Rattle.arch_types.specs.History.{is_in_table}
use Rattle.intervals.specs.declared.interval.Interval.{Interval}
use Rattle.archive_history.specs.LimitCounts.{LimitCountsView, interval_row_count}
use Rattle.archive_history.specs.Limits.{octets_of, interval_rows}
use Rattle.sealed_sums.specs.TableSums.{AreTableSumsOf, TableSumsView}

-- the exponent of the intervals, how many rows there are, what the limits count of them, and what those of each table come to
pub record SumsView : Type 0 where
  pub exponent : ℕ
  pub count : ℕ
  pub limit_counts : LimitCountsView
  pub tables : List TableSumsView

-- the same of its parts
abbrev pub sums_view : ℕ → ℕ → LimitCountsView → List TableSumsView → SumsView
sums_view exponent count limit_counts tables = record { exponent = exponent; count = count; limit_counts = limit_counts; tables = tables }

-- the sums are those of these rows, in any order
pub record AreSumsOf (rows : List Row) (sums : SumsView) : Type 0 where
  pub count : sums.count ≡ length rows
  pub octets : sums.limit_counts.octets ≡ octets_of rows
  pub intervals : (interval : Interval) →
      interval_row_count sums.limit_counts.rows interval ≡ interval_rows sums.exponent interval rows
  pub tables : (table : ℕ) (those : TableSumsView) → slice_get sums.tables table ≡ Some those →
      AreTableSumsOf (filter (is_in_table table) rows) those

-- there are rows whose sums these are, of which no packet has 2^32 octets
pub record HaveRows (sums : SumsView) : Type 0 where
  pub rows : List Row
  pub are : AreSumsOf rows sums
  pub small : sums.limit_counts.octets ≤ sums.count * 4294967296
