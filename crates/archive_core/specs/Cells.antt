-- The cells of an interval.
use Rattle.std.specs.Prelude.{ℕ, List}
use Rattle.arch_types.specs.declared.cell.Cell.{Cell}
use Rattle.intervals.specs.declared.interval.Interval.{Interval}
use Rattle.history_items.specs.declared.items.Item.{Item}
use Rattle.history_items.specs.Items.{rows_in}
use Rattle.history_items.specs.Databases.{database_in}
use Rattle.container_extract.specs.Extraction.{values_of}
use Rattle.intervals.specs.Interval.{interval_start, interval_end}
use Rattle.mdb_items.specs.Database.{Database}

-- the cells of a parameter over the rows of `tm` in an interval, in the order of their keys, by the database in force
abbrev pub values_of_interval : Database → ℕ → ℕ → Interval → List Item → List Cell
values_of_interval first q exponent interval history =
    values_of (rows_in history) (database_in first history) q (interval_start exponent interval) (interval_end exponent interval)
