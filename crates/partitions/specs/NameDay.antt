-- A partition by its packet name first.
use Rattle.std.specs.Ordering.{nat_cmp, int_cmp, ordering_then}
use Rattle.std.specs.declared.cmp.Ordering.{Ordering}
use Rattle.partitions.specs.declared.partition.Partition.{Partition}
use Rattle.partitions.specs.declared.name_day.NameDay.{NameDay}

-- name days are ordered by the packet name's number, and then by day
abbrev pub name_day_cmp : NameDay → NameDay → Ordering
name_day_cmp a b = ordering_then (nat_cmp a.pname b.pname) (int_cmp a.day b.day)

-- the name day of a partition
abbrev pub name_day : Partition → NameDay
name_day partition = record { pname = partition.pname; day = partition.day }
