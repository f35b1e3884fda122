use Rattle.std.proofs.Common.{get_or, length, ◌-◌, rules}
use Rattle.std.proofs.lemmas.List.Sorted.{IsPartitionPoint-from_clause}
use Rattle.partitions.proofs.Parted.{no_partition}
use Rattle.ssql_select.proofs.DaySplits.{is_earlier, last_parted, ends_before, some_last}
use Rattle.ssql_select.proofs.days.before_last_day.Goals as goal

pub returns-clause-some : goal.returns-clause-some
returns-clause-some c =
    let parts = c.args.parts.now in
    let day = (get_or parts (length parts - 1) no_partition).day in
    let point = IsPartitionPoint-from_clause (is_earlier day) parts c.partition_point.result c.partition_point.ensures.partitioned (last_parted parts day c.requires.rising) (λ a r q k. search rules) in
    some_last parts no_partition c.partition_point.result c.requires.some point.0

pub returns-clause-day : goal.returns-clause-day
returns-clause-day c =
    let parts = c.args.parts.now in
    let day = (get_or parts (length parts - 1) no_partition).day in
    let point = IsPartitionPoint-from_clause (is_earlier day) parts c.partition_point.result c.partition_point.ensures.partitioned (last_parted parts day c.requires.rising) (λ a r q k. search rules) in
    ends_before parts day c.partition_point.result point
