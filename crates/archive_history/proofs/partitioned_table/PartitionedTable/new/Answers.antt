use Rattle.archive_history.proofs.Partitioned.{partitioned_none}
use Rattle.archive_history.proofs.partitioned_table.PartitionedTable.new.Goals as goal

pub invariant_of-result : goal.invariant_of-result
invariant_of-result c = partitioned_none c.in_ok-new.field-0 c.new-2.result c.new-3.result c.in_ok-new.ensures c.new-2.ensures c.new-3.ensures.times
