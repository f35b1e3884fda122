-- What holds of bounds and partitions.
use Rattle.std.specs.Prelude.{◌≡◌, ◌↔◌, ◌<◌, ℕ, ℤ, List, length, true}
use Rattle.std.specs.List.{AllByRecursion}
use Rattle.arch_types.specs.declared.row.Row.{Row}
use Rattle.partitions.specs.declared.partition.Partition.{Partition}
use Rattle.partitions.specs.declared.bounds.Bounds.{Bounds}
use Rattle.partitions.specs.Partition.{partition_of}
use Rattle.partitions.specs.Bounds.{IsInBounds, MayHold}
use Rattle.partitions.specs.Places.{places_in}
use Rattle.partitions.specs.Rows.{is_of_partition}

-- the partition of a row in the bounds may hold one in them
abbrev pub RowsMayStand : Type 0
RowsMayStand = (bounds : Bounds) (time : ℤ) (pname : ℕ) → IsInBounds bounds time pname → MayHold bounds (partition_of time pname)

-- a row stands in one partition alone: that of its time and its packet name
abbrev pub StandsInItsPartition : Type 0
StandsInItsPartition = (partition : Partition) (row : Row) → (is_of_partition partition row ≡ true) ↔ (partition ≡ partition_of row.key.time row.pname)

-- the places of rows in a partition are places of rows that were noted
abbrev pub PlacesAreNoted : Type 0
PlacesAreNoted = (partition : Partition) (noted : List Partition) → AllByRecursion (λ place. place < length noted) (places_in partition noted)
