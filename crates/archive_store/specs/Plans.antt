-- What a plan holds.
use Rattle.std.specs.Prelude.{◌≡◌, ◌<ℤ◌, ℕ, ℤ, List, Bool, ◌&&◌, filter, length, IsSome, map}
use Rattle.std.specs.List.{AllByRecursion}
use Rattle.std.specs.Arc.{arc_value}
use Rattle.intervals.specs.declared.interval.Interval.{Interval}
use Rattle.arch_disk.specs.Disk.{Device}
use Rattle.arch_types.specs.declared.row.Row.{Row}
use Rattle.arch_types.specs.Table.{is_in_time_range, range_of, table_of}
use Rattle.history_items.specs.declared.fills.Fill.{Fill}
use Rattle.history_items.specs.declared.items.Item.{Item}
use Rattle.history_items.specs.Items.{rows_in}
use Rattle.history_items.specs.Databases.{database_in}
use Rattle.history_items.specs.Late.{IsLate, is_late_in, last_in}
use Rattle.interval_fills.specs.Intervals.{rows_of_interval}
use Rattle.interval_walks.specs.Counts.{row_interval}
use Rattle.interval_walks.specs.Turns.{CoverRange, IntervalsRise, MeetsRange, meets_range}
use Rattle.param_segments.specs.declared.plan.Part.{Part}
use Rattle.param_segments.specs.declared.plan.Part.TheVariants.{Rows, Set}
use Rattle.param_segments.specs.declared.plan.Plan.{Plan}
use Rattle.param_segments.specs.Plans.{ArePartsOver, part_interval, rows_of_parts}
use Rattle.archive_images.specs.declared.head.Head.{Head}
use Rattle.archive_store.specs.CurrentSets.{IsCurrentSet}
use Rattle.archive_images.specs.Entries.{IsArchivedRow}
use Rattle.archive_store.specs.Pages.{TellsRows}
use Rattle.archive_store.specs.StoreView.{StoreView}

-- what a plan has of an interval: the set that stands for it, or, where it is late, rows of the archive, which are its
-- own where the store tells its rows
abbrev pub IsPlanPart : {D : Type 0} → Device D → StoreView D → Part → Type 0
IsPlanPart device store (Set interval set) = IsCurrentSet store interval (arc_value set)
IsPlanPart device store (Rows interval rows) =
    IsLate store.exponent interval store.history store.fills
    × AllByRecursion (IsArchivedRow store.head store.history) rows
    × (TellsRows device store → rows ≡ rows_of_interval store.exponent interval store.history)

-- the interval of a part
abbrev pub interval_of_part : Part → Interval
interval_of_part part = record { 0 = part_interval part }

-- the intervals of parts, in their order
abbrev pub plan_intervals : List Part → List Interval
plan_intervals parts = map interval_of_part parts

-- an interval that has a row of `tm` meets a range of times
abbrev pub IsRangeInterval : ℕ → List Item → ℤ → ℤ → Interval → Type 0
IsRangeInterval exponent history low high interval =
    MeetsRange exponent low high interval × IsSome (last_in exponent interval history)

-- A part for each interval that has rows of `tm` and meets a range, the intervals rising, over the whole history, and
-- the database in force. Each row that is left to extract is one that a store gives, also over a disk that isn't
-- transparent.
pub record IsPlan {D : Type 0} (device : Device D) (store : StoreView D) (low high : ℤ) (plan : Plan) : Type 0 where
  pub front : plan.front ≡ length store.history
  pub mdb : arc_value plan.mdb ≡ database_in store.head.mdb store.history
  pub exponent : plan.exponent ≡ store.exponent
  pub each : AllByRecursion (IsPlanPart device store) plan.parts
  pub rising : IntervalsRise (plan_intervals plan.parts)
  pub meets : AllByRecursion (IsRangeInterval store.exponent store.history low high) (plan_intervals plan.parts)
  pub cover : low <ℤ high → CoverRange store.exponent (plan_intervals plan.parts) low high store.history
  pub archived : AllByRecursion (IsArchivedRow store.head store.history) (rows_of_parts plan.parts)

-- The parts of a plan are over rows of which those with low <= time < high are the rows of `tm` in that range of the
-- whole history, in the order of their keys.
pub record IsPlanOver (head : Head) (history : List Item) (low high : ℤ) (plan : Plan) : Type 0 where
  pub rows : List Row
  pub over : ArePartsOver (database_in head.mdb history) plan.parts rows
  pub in_range : filter (is_in_time_range low high) rows ≡ range_of 0 low high (rows_in history)

-- whether an interval is late and meets a range of times: only of such ones rows are left to extract
abbrev pub is_late_of_range : ℕ → List Item → List Fill → ℤ → ℤ → Interval → Bool
is_late_of_range exponent history fills low high interval =
    is_late_in exponent interval history fills && meets_range exponent low high interval

-- the rows of `tm` in such intervals
abbrev pub late_rows_of_range : ℕ → List Item → List Fill → ℤ → ℤ → List Row
late_rows_of_range exponent history fills low high =
    filter (λ row. is_late_of_range exponent history fills low high (row_interval exponent row))
    (table_of 0 (rows_in history))
