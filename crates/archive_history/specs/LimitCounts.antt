-- What the limits count.
use Rattle.std.specs.Prelude.{◌≡◌, ℕ, ◌≤◌, ◌⊎◌, List, if◌then◌else◌}
use Rattle.block_map.specs.Index.{tally_of}
use Rattle.intervals.specs.declared.interval.Interval.{Interval}
use Rattle.intervals.specs.Interval.{interval_cmp}
use Rattle.history_items.specs.Fills.{is_same}

-- octets, the rows of each interval that has any, and how many more intervals may come without memory
pub record LimitCountsView : Type 0 where
  pub octets : ℕ
  pub rows : List (Interval × ℕ)
  pub room : ℕ

-- how many rows an interval has
abbrev pub interval_row_count : List (Interval × ℕ) → Interval → ℕ
interval_row_count rows interval = tally_of interval_cmp rows interval

-- no interval has more rows than this
abbrev pub HasAtMost : ℕ → List (Interval × ℕ) → Type 0
HasAtMost most rows = (interval : Interval) → interval_row_count rows interval ≤ most

-- this is the number of rows of the interval that has most, or 0
pub record IsMost (most : ℕ) (rows : List (Interval × ℕ)) : Type 0 where
  pub at_most : HasAtMost most rows
  pub reached : (most ≡ 0) ⊎ ((interval : Interval) × (interval_row_count rows interval ≡ most))

-- one at this interval, and none at any other
abbrev pub one_at : Interval → Interval → ℕ
one_at interval other = if is_same interval other then 1 else 0
