-- That a sealed history may go to another thread, by its parts, since one search through all of them runs out of steps.
use denote.Param.Send.{IsSend, sendable}
use Rattle.std.proofs.Crossing.{crosses}
use Rattle.arch_types.specs.contracts.row.Row as Row
use Rattle.archive_history.specs.contracts.limit_counts.LimitCounts as LimitCounts
use Rattle.archive_history.proofs.Sending.{history_send}
use Rattle.histogram.specs.contracts.histogram.Histogram as Histogram
use Rattle.partitions.specs.contracts.counts.PartitionCounts as PartitionCounts
use Rattle.run_files.specs.contracts.run.Run as Run
use Rattle.run_pages.specs.contracts.page_rows.PageRows as PageRows
use Rattle.sealed_sums.specs.contracts.sums.SealedSums as SealedSums
use Rattle.sealed_sums.specs.contracts.table_sums.TableSums as TableSums
use Rattle.sealed_history.specs.contracts.history.SealedHistory as SealedHistory

row_send : IsSend Row.the_row
row_send = search (crosses, sendable) depth 60

page_send : IsSend PageRows.the_row
page_send = search (crosses, row_send, sendable) depth 60 fits 10000

run_send : IsSend Run.the_row
run_send = search (crosses, sendable) depth 60 fits 10000

limit_counts_send : IsSend LimitCounts.the_row
limit_counts_send = search (crosses, sendable) depth 60

partition_counts_send : IsSend PartitionCounts.the_row
partition_counts_send = search (crosses, sendable) depth 60 fits 10000

histogram_send : IsSend Histogram.the_row
histogram_send = search (crosses, sendable) depth 60 fits 10000

table_sums_send : IsSend TableSums.the_row
table_sums_send = search (crosses, partition_counts_send, histogram_send, sendable) depth 60

sums_send : IsSend SealedSums.the_row
sums_send = search (crosses, limit_counts_send, table_sums_send, sendable) depth 60

pub sealed_history_send : IsSend SealedHistory.the_row
sealed_history_send = search (crosses, run_send, page_send, sums_send, history_send, sendable) depth 60
