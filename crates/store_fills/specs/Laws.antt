-- What holds of sound fills.
use Rattle.std.specs.Prelude.{ℕ, List, ◌++◌, length}
use Rattle.intervals.specs.declared.interval.Interval.{Interval}
use Rattle.arch_types.specs.declared.row.Row.{Row}
use Rattle.history_items.specs.declared.fills.Fill.{Fill}
use Rattle.history_items.specs.declared.items.Item.{Item}
use Rattle.history_items.specs.Items.{items_of}
use Rattle.history_items.specs.Databases.{database_in}
use Rattle.history_items.specs.Late.{IsLate}
use Rattle.interval_fills.specs.Intervals.{rows_of_interval}
use Rattle.mdb_items.specs.Database.{Database}
use Rattle.param_segments.specs.Extracted.{IsSetOf}
use Rattle.param_segments.specs.Rows.{SetRow}
use Rattle.store_fills.specs.Filled.{HoldsRows, IsRightFill}
use Rattle.store_fills.specs.LastFills.{fill_over}
use Rattle.store_fills.specs.Sound.{Fillings, with_filling, AreSound}

-- fills that are sound are so when rows come
abbrev pub RowsLeaveSound : Type 0
RowsLeaveSound = (exponent : ℕ) (first : Database) (history : List Item) (rows : List Row) (fillings : Fillings (List SetRow)) →
    AreSound exponent (HoldsRows (database_in first history)) history fillings →
    AreSound exponent (HoldsRows (database_in first (history ++ items_of rows))) (history ++ items_of rows) fillings

-- and when a fill comes that is right for the history
abbrev pub FillLeavesSound : Type 0
FillLeavesSound = (exponent : ℕ) (first : Database) (history : List Item) (fillings : Fillings (List SetRow))
    (interval : Interval) (base : ℕ) (set : List SetRow) →
    AreSound exponent (HoldsRows (database_in first history)) history fillings →
    IsRightFill exponent first history interval base set →
    AreSound exponent (HoldsRows (database_in first history)) history (with_filling fillings interval (fill_over base set))

-- a fill of a late interval over the whole history is right, where its set holds what the interval's rows give
abbrev pub WholeFillIsRight : Type 0
WholeFillIsRight = (exponent : ℕ) (first : Database) (history : List Item) (fills : List Fill) (interval : Interval)
    (set : List SetRow) → IsLate exponent interval history fills →
    IsSetOf (database_in first history) exponent interval.0 set →
    HoldsRows (database_in first history) set (rows_of_interval exponent interval history) →
    IsRightFill exponent first history interval (length history) set

-- a fill that is right stays so whatever comes
abbrev pub RightFillStays : Type 0
RightFillStays = (exponent : ℕ) (first : Database) (history more : List Item) (interval : Interval) (base : ℕ)
    (set : List SetRow) → IsRightFill exponent first history interval base set →
    IsRightFill exponent first (history ++ more) interval base set
