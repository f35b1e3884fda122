use Rattle.std.proofs.Common.{◌≡◌}
use Rattle.partitions.specs.Places.{places_in}
use Rattle.yarch_table.specs.Stored.{rows_of}
use Rattle.partitions.specs.Rows.{partitions_of}
use Rattle.archive_history.specs.PartitionedTable.{rows_at_places}
use Rattle.archive_history.proofs.PartitionRows.{all_stored, partition_in_order}
use Rattle.archive_history.proofs.partitioned_table.PartitionedTable.partition_rows.Goals as goal

pub rows_of_places-requires : goal.rows_of_places-requires
rows_of_places-requires c =
    let stored = c.self.inside.table.stored in
    rw (c.places_of-places.ensures, c.self.invariant.noted) (all_stored stored c.args.front c.args.partition.now)

pub returns : goal.returns
returns c =
    let stored = c.self.inside.table.stored in
    let partition = c.args.partition.now in
    let front = c.args.front in
    let rows = c.in_ok-rows.rows.items in
    let gathered : rows ≡ rows_at_places stored front (places_in partition (partitions_of (rows_of stored))) = rw (c.places_of-places.ensures, c.self.invariant.noted) at c.in_ok-rows.ensures in
    rw (← c.self.view_is) (partition_in_order stored front partition rows c.in_key_order.result c.self.invariant.own_keys gathered c.in_key_order.ensures.same c.in_key_order.ensures.sorted)
