-- What the rows of one table come to.
use Rattle.std.specs.Prelude.{List}
use Rattle.arch_types.specs.declared.row.Row.{Row}
use Rattle.histogram.specs.Times.{HistogramView, IsHistogramOf}
use Rattle.partitions.specs.Counts.{PartitionCountsView, AreCountsOf}
use Rattle.partitions.specs.Rows.{partitions_of}
use Rattle.archive_history.specs.PartitionedTable.{named_times_of}

-- how many rows each partition has, and the records of each packet name
pub record TableSumsView : Type 0 where
  pub partitions : PartitionCountsView
  pub spans : HistogramView

-- they are those of these rows, in any order
pub record AreTableSumsOf (rows : List Row) (sums : TableSumsView) : Type 0 where
  pub partitions : AreCountsOf sums.partitions (partitions_of rows)
  pub spans : IsHistogramOf sums.spans (named_times_of rows)
