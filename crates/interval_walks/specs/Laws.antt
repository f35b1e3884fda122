-- What holds of intervals one after the other, and of how many are late.
use Rattle.std.specs.Prelude.{◌≡◌, ℕ, ℤ, ◌+◌, ◌≤◌, List, [], ◌∷◌, ◌++◌, length, filter, Bool, true}
use Rattle.std.specs.List.{list_any, AllByRecursion}
use Rattle.intervals.specs.declared.interval.Interval.{Interval}
use Rattle.arch_types.specs.Table.{is_in_time_range, range_of, table_of}
use Rattle.history_items.specs.declared.fills.Fill.{Fill}
use Rattle.history_items.specs.declared.fills.Fill.TheVariants.{Done}
use Rattle.history_items.specs.Fills.{is_same}
use Rattle.history_items.specs.declared.items.Item.{Item}
use Rattle.history_items.specs.Items.{rows_in}
use Rattle.history_items.specs.Late.{IsLate, StandsIn}
use Rattle.interval_fills.specs.Intervals.{NoneSince}
use Rattle.interval_walks.specs.Counts.{AreApart, intervals_in, row_interval, late_intervals}
use Rattle.interval_walks.specs.Turns.{CoverRange, IntervalsRise, rows_in_turn}

-- of the rows of intervals that cover a range of times, one interval after the other, those in the range are the
-- range's
abbrev pub RangesAreIntervals : Type 0
RangesAreIntervals = (exponent : ℕ) (intervals : List Interval) (low high : ℤ) (history : List Item) →
    IntervalsRise intervals → CoverRange exponent intervals low high history →
    filter (is_in_time_range low high) (rows_in_turn exponent intervals history) ≡ range_of 0 low high (rows_in history)

-- the rows of intervals that pass a test are at most the rows of `tm` whose intervals pass it
abbrev pub RowsInTurnAreFew : Type 0
RowsInTurnAreFew = (exponent : ℕ) (test : Interval → Bool) (intervals : List Interval) (history : List Item) →
    IntervalsRise intervals → AllByRecursion (λ interval. test interval ≡ true) intervals →
    length (rows_in_turn exponent intervals history)
    ≤ length (filter (λ row. test (row_interval exponent row)) (table_of 0 (rows_in history)))

-- an interval is among those that have rows exactly where a row stands in it, and each is there once
pub record IntervalsHaveRows : Type 0 where
  pub there : (exponent : ℕ) (interval : Interval) (position : ℕ) (history : List Item) →
      StandsIn exponent interval position history → list_any (is_same interval) (intervals_in exponent history) ≡ true
  pub apart : (exponent : ℕ) (history : List Item) → AreApart (intervals_in exponent history)

-- a fill of a late interval, after which it isn't late, leaves one late interval less
abbrev pub FillsLeaveOneLess : Type 0
FillsLeaveOneLess = (exponent : ℕ) (history : List Item) (fills : List Fill) (interval : Interval) (base : ℕ) →
    IsLate exponent interval history fills → NoneSince exponent interval base history →
    length (late_intervals exponent history (fills ++ Done interval base ∷ [])) + 1
    ≡ length (late_intervals exponent history fills)

-- where no interval is late, none is counted
abbrev pub NoneLateIsNone : Type 0
NoneLateIsNone = (exponent : ℕ) (history : List Item) (fills : List Fill) →
    ((interval : Interval) → IsLate exponent interval history fills → ⊥) → late_intervals exponent history fills ≡ []

-- two lists of the same intervals, each once, are of one length
abbrev pub SameIntervalsAreAsMany : Type 0
SameIntervalsAreAsMany = (a b : List Interval) → AreApart a → AreApart b →
    ((interval : Interval) → list_any (is_same interval) a ≡ list_any (is_same interval) b) → length a ≡ length b
