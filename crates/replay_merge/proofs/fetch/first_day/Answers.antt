use Rattle.std.proofs.Common.{get_or, rules}
use Rattle.std.proofs.lemmas.List.Sorted.{IsPartitionPoint-from_clause}
use Rattle.partitions.proofs.Parted.{no_partition}
use Rattle.replay_merge.proofs.Days.{is_upto, first_parted, ends_day, some_first}
use Rattle.replay_merge.proofs.fetch.first_day.Goals as goal

pub returns-clause-some : goal.returns-clause-some
returns-clause-some c =
    let parts = c.args.parts.now in
    let day = (get_or parts 0 no_partition).day in
    let point = IsPartitionPoint-from_clause (is_upto day) parts c.partition_point.result c.partition_point.ensures.partitioned (first_parted parts day c.requires.rising) (λ a r q k. search rules) in
    some_first parts no_partition c.partition_point.result c.requires.some point.1

pub returns-clause-day : goal.returns-clause-day
returns-clause-day c =
    let parts = c.args.parts.now in
    let day = (get_or parts 0 no_partition).day in
    let point = IsPartitionPoint-from_clause (is_upto day) parts c.partition_point.result c.partition_point.ensures.partitioned (first_parted parts day c.requires.rising) (λ a r q k. search rules) in
    ends_day parts day c.partition_point.result point
