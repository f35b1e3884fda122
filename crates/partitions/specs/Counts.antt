-- How many rows each partition has, where their places aren't known.
use Rattle.std.specs.Prelude.{◌≡◌, ℕ, ◌<◌, List, length, filter}
use Rattle.std.specs.List.{All}
use Rattle.std.specs.Map.{values_of}
use Rattle.std.specs.Ordering.{is_eq}
use Rattle.block_map.specs.Index.{tally_of}
use Rattle.block_map.specs.Rising.{IsRising}
use Rattle.partitions.specs.declared.partition.Partition.{Partition}
use Rattle.partitions.specs.Partition.{partition_cmp}

-- the partitions that hold a row, each with the number of its rows, and how many more partitions may come without memory
pub record PartitionCountsView : Type 0 where
  pub counts : List (Partition × ℕ)
  pub room : ℕ

-- how many rows a partition has
abbrev pub rows_counted : List (Partition × ℕ) → Partition → ℕ
rows_counted counts partition = tally_of partition_cmp counts partition

-- how often a partition is among the partitions of rows
abbrev pub times_in : Partition → List Partition → ℕ
times_in partition noted = length (filter (λ other. is_eq (partition_cmp other partition)) noted)

-- the counts are those of rows that stand in these partitions, a partition for each row
abbrev pub AreCountsOf : PartitionCountsView → List Partition → Type 0
AreCountsOf counted noted = (p : Partition) → rows_counted counted.counts p ≡ times_in p noted

-- partitions in their order, each with a row
pub record HoldRows (counts : List (Partition × ℕ)) : Type 0 where
  pub rising : IsRising partition_cmp counts
  pub each : All (λ count. 0 < count) (values_of counts)
