use Rattle.std.proofs.Common.{take}
use Rattle.yarch_table.specs.Stored.{rows_of}
use Rattle.archive_history.specs.PartitionedTable.{named_times_of, IsHistogramWith}
use Rattle.archive_history.proofs.partitioned_table.histogram_of_name.Given as goal

abbrev pub invariant-loop-kept : goal.invariant-loop-kept
invariant-loop-kept l = IsHistogramWith l.gone l.pname l.histogram (named_times_of (rows_of (take l.kept-index l.stored)))
