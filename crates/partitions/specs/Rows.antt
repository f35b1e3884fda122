-- The rows of a table that stand in one partition, and in several.
use Rattle.std.specs.Prelude.{ℕ, ℤ, List, Bool, filter, map, take}
use Rattle.std.specs.List.{list_any}
use Rattle.std.specs.Ordering.{is_eq}
use Rattle.arch_types.specs.declared.row.Row.{Row}
use Rattle.arch_types.specs.Table.{table_at_front, range_of}
use Rattle.partitions.specs.declared.partition.Partition.{Partition}
use Rattle.partitions.specs.Partition.{partition_cmp, partition_of}

-- the partition of each row, in order
abbrev pub partitions_of : List Row → List Partition
partitions_of rows = map (λ row. partition_of row.key.time row.pname) rows

-- whether a row stands in a partition: the day of its time and its packet name are the partition's
abbrev pub is_of_partition : Partition → Row → Bool
is_of_partition partition row = is_eq (partition_cmp partition (partition_of row.key.time row.pname))

-- whether it stands in one of these partitions
abbrev pub is_of_parts : List Partition → Row → Bool
is_of_parts parts row = list_any (λ partition. is_of_partition partition row) parts

-- the rows of a partition of a table at a front, in the order of their keys
abbrev pub partition_at : ℕ → ℕ → Partition → List Row → List Row
partition_at front table partition history = filter (is_of_partition partition) (table_at_front front table history)

-- those of several partitions with from <= time < to, in the order of their keys
abbrev pub parts_between : ℕ → ℕ → List Partition → ℤ → ℤ → List Row → List Row
parts_between front table parts from to history = filter (is_of_parts parts) (range_of table from to (take front history))
