use Rattle.std.proofs.Common.{◌≡◌, take}
use Rattle.archive_history.proofs.RangeRows.{by_partitions}
use Rattle.archive_history.proofs.partitioned_table.PartitionedTable.rows_by_partitions.Given as goal

abbrev pub invariant-loop-partition : goal.invariant-loop-partition
invariant-loop-partition l = l.rows.items ≡ by_partitions l.self.stored l.front l.from l.to l.parts (take l.partition-index l.parts)
