-- Intervals one after the other.
use Rattle.std.specs.Prelude.{◌≡◌, ℕ, ℤ, ◌<ℤ◌, int_lt, List, [], ◌∷◌, Bool, true, ◌&&◌}
use Rattle.std.specs.List.{flat_map, list_any, AllByRecursion}
use Rattle.intervals.specs.declared.interval.Interval.{Interval}
use Rattle.arch_types.specs.declared.row.Row.{Row}
use Rattle.history_items.specs.Fills.{is_same}
use Rattle.history_items.specs.declared.items.Item.{Item}
use Rattle.history_items.specs.Late.{StandsIn}
use Rattle.interval_fills.specs.Intervals.{rows_of_interval}
use Rattle.intervals.specs.Interval.{interval_end, interval_start}

-- the intervals rise
abbrev pub IntervalsRise : List Interval → Type 0
IntervalsRise [] = Unit {0}
IntervalsRise (interval ∷ later) = AllByRecursion (λ other. interval.0 <ℤ other.0) later × IntervalsRise later

-- an interval begins before the end of a range of times, and ends behind its first time
pub record MeetsRange (exponent : ℕ) (low high : ℤ) (interval : Interval) : Type 0 where
  pub begins : interval_start exponent interval <ℤ high
  pub ends : low <ℤ interval_end exponent interval

-- whether it does
abbrev pub meets_range : ℕ → ℤ → ℤ → Interval → Bool
meets_range exponent low high interval =
    int_lt (interval_start exponent interval) high && int_lt low (interval_end exponent interval)

-- each interval that has rows and meets a range of times is among these
abbrev pub CoverRange : ℕ → List Interval → ℤ → ℤ → List Item → Type 0
CoverRange exponent intervals low high history = (interval : Interval) (position : ℕ) →
    StandsIn exponent interval position history → MeetsRange exponent low high interval →
    list_any (is_same interval) intervals ≡ true

-- the rows of intervals, one interval after the other
abbrev pub rows_in_turn : ℕ → List Interval → List Item → List Row
rows_in_turn exponent intervals history = flat_map (λ interval. rows_of_interval exponent interval history) intervals
