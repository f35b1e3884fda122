-- The marks of intervals that have rows.
use Rattle.std.specs.Prelude.{◌≡◌, ℕ, List, map, Some}
use Rattle.intervals.specs.declared.interval.Interval.{Interval}
use Rattle.history_items.specs.declared.fills.Fill.{Fill}
use Rattle.history_items.specs.declared.items.Item.{Item}
use Rattle.history_items.specs.Fills.{base_in}
use Rattle.history_items.specs.Late.{last_in}
use Rattle.archive_store.specs.declared.marks.Mark.{Mark}

-- a mark has the greatest position of what changed its interval, and the base of the interval's last fill
pub record IsMarkIn (exponent : ℕ) (history : List Item) (fills : List Fill) (mark : Mark) : Type 0 where
  pub last : last_in exponent mark.interval history ≡ Some mark.last
  pub base : base_in mark.interval fills ≡ mark.base

-- the intervals of marks
abbrev pub marked_intervals : List Mark → List Interval
marked_intervals marks = map (λ mark. mark.interval) marks
