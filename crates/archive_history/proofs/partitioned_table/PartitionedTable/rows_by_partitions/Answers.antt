use Rattle.std.proofs.Common.{◌≡◌, get_or, take, w64, to_z, of_z, ◌∙◌, ap}
use Rattle.std.specs.Prelude.{IsPermutation, IsSortedByKey, filter}
use Rattle.std.proofs.lemmas.Int.{to_z-of_z}
use Rattle.std.proofs.lemmas.List.{take_all}
use Rattle.arch_types.specs.declared.row.Row.{Row}
use Rattle.arch_types.specs.Order.{key_cmp}
use Rattle.partitions.specs.Rows.{is_of_parts}
use Rattle.partitions.proofs.Parted.{no_partition}
use Rattle.yarch_table.specs.Stored.{seen_between}
use Rattle.archive_history.proofs.RangeRows.{by_partitions, one_read, parts_in_order}
use Rattle.archive_history.proofs.Steps.{default_free, if_ok_both}
use Rattle.archive_history.proofs.partitioned_table.PartitionedTable.rows_by_partitions.Goals as goal

pub loop-partition-preserved : goal.loop-partition-preserved
loop-partition-preserved c =
    let parts = c.args.parts.now in
    let i = c.loop-partition.partition-index in
    let partition = get_or parts i no_partition in
    one_read c.args.self.now.stored c.args.front (to_z w64 (of_z w64 c.args.from)) (to_z w64 (of_z w64 c.args.to)) parts i partition c.loop-partition.rows.items c.in_ok-part_rows.part_rows c.in_ok-rows.rows.items
    c.loop-partition-test.true (default_free parts i no_partition partition c.loop-partition-test.true) c.loop-partition.invariant c.in_ok-part_rows.ensures c.in_ok-rows.ensures

pub returns : goal.returns
returns c =
    let stored = c.args.self.now.stored in
    let parts = c.args.parts.now in
    let front = c.args.front in
    let from = c.args.from in
    let to = c.args.to in
    let gathered = c.loop-partition.rows.items in
    let low = to_z-of_z w64 from c.ranges.from in
    let high = to_z-of_z w64 to c.ranges.to in
    let some : gathered ≡ by_partitions stored front from to parts (take c.loop-partition.partition-index parts) = rw (low, high) at c.loop-partition.invariant in
    let all : gathered ≡ by_partitions stored front from to parts parts = some ∙ ap (by_partitions stored front from to parts) (take_all c.loop-partition.partition-index parts c.loop-partition-test.false) in
    if_ok_both c.merged_by_key.result (IsPermutation gathered) (IsSortedByKey (λ (row : Row). row.key) key_cmp) (λ rows. rows ≡ filter (is_of_parts parts) (seen_between front from to stored))
    (λ rows moved up. parts_in_order stored front from to parts gathered rows c.has_own_keys.ensures c.requires all moved up) c.merged_by_key.ensures.same c.merged_by_key.ensures.sorted
