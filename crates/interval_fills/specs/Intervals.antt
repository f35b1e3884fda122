-- The rows of an interval.
use Rattle.std.specs.Prelude.{ℕ, ◌<◌, List}
use Rattle.intervals.specs.declared.interval.Interval.{Interval}
use Rattle.intervals.specs.Interval.{interval_end, interval_start}
use Rattle.arch_types.specs.declared.row.Row.{Row}
use Rattle.arch_types.specs.Table.{range_of}
use Rattle.history_items.specs.declared.items.Item.{Item}
use Rattle.history_items.specs.Items.{rows_in}
use Rattle.history_items.specs.Late.{ChangesAt, StandsIn}

-- the rows of table `tm`, the first table, with their time in an interval, in the order of their keys
abbrev pub rows_of_interval : ℕ → Interval → List Item → List Row
rows_of_interval exponent interval history =
    range_of 0 (interval_start exponent interval) (interval_end exponent interval) (rows_in history)

-- a row of `tm` with its time in the interval stands below this front
pub record HasRowBelow (exponent : ℕ) (interval : Interval) (front : ℕ) (history : List Item) : Type 0 where
  pub position : ℕ
  pub stands : StandsIn exponent interval position history
  pub below : position < front

-- nothing that changes the interval stands at or after this front: no row of it, and no database
abbrev pub NoneSince : ℕ → Interval → ℕ → List Item → Type 0
NoneSince exponent interval front history =
    (position : ℕ) → ChangesAt exponent interval position history → position < front
