-- The partition of a row, and the order of partitions.
use Rattle.std.specs.Prelude.{ℕ, ℤ}
use Rattle.std.specs.Ordering.{nat_cmp, int_cmp, ordering_then}
use Rattle.std.specs.declared.cmp.Ordering.{Ordering}
use Rattle.time_text.specs.Day.{day_of}
use Rattle.partitions.specs.declared.partition.Partition.{Partition}

-- partitions are ordered by day, and then by the packet name's number
abbrev pub partition_cmp : Partition → Partition → Ordering
partition_cmp a b = ordering_then (int_cmp a.day b.day) (nat_cmp a.pname b.pname)

-- the partition of a row: the day of its time, and its packet name
abbrev pub partition_of : ℤ → ℕ → Partition
partition_of time pname = record { day = day_of time; pname = pname }
