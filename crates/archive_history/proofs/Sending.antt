-- That a history may go to another thread, by their parts, since one search through all of them runs out of steps.
use denote.Param.Send.{IsSend, sendable}
use Rattle.std.proofs.Crossing.{crosses}
use Rattle.archive_history.specs.contracts.history.History as History
use Rattle.archive_history.specs.contracts.limit_counts.LimitCounts as LimitCounts
use Rattle.archive_history.specs.contracts.partitioned_table.PartitionedTable as PartitionedTable
use Rattle.histogram.specs.contracts.histogram.Histogram as Histogram
use Rattle.partitions.specs.contracts.links.Link as Link
use Rattle.partitions.specs.contracts.partitions.Partitions as Partitions
use Rattle.yarch_table.specs.contracts.table.Stored as Stored
use Rattle.yarch_table.specs.contracts.table.Table as Table

stored_send : IsSend Stored.the_row
stored_send = search (crosses, sendable) depth 60

table_send : IsSend Table.the_row
table_send = search (crosses, stored_send, sendable) depth 60 fits 10000

link_send : IsSend Link.the_row
link_send = search (crosses, sendable) depth 60

partitions_send : IsSend Partitions.the_row
partitions_send = search (crosses, link_send, sendable) depth 60 fits 10000

histogram_send : IsSend Histogram.the_row
histogram_send = search (crosses, sendable) depth 60 fits 10000

partitioned_table_send : IsSend PartitionedTable.the_row
partitioned_table_send = search (crosses, table_send, partitions_send, histogram_send, sendable) depth 60 fits 10000

counts_send : IsSend LimitCounts.the_row
counts_send = search (crosses, sendable) depth 60

pub history_send : IsSend History.the_row
history_send = search (crosses, partitioned_table_send, counts_send, sendable) depth 60
