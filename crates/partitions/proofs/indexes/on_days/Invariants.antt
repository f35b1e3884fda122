use Rattle.std.proofs.Common.{◌≡◌, length}
use Rattle.std.specs.List.{AllByRecursion}
use Rattle.std.specs.declared.cmp.Ordering.TheVariants.{Greater}
use Rattle.partitions.specs.declared.partition.Partition.{Partition}
use Rattle.partitions.specs.Partition.{partition_cmp}
use Rattle.partitions.specs.NameDayFilter.{is_on_days}
use Rattle.partitions.proofs.Leaps.{IsUnderWay}
use Rattle.partitions.proofs.indexes.on_days.Given as goal

abbrev pub invariant-loop-partition : goal.invariant-loop-partition
invariant-loop-partition l =
    IsUnderWay (is_on_days l.days) l.index.entries l.entries l.parts
    × AllByRecursion (λ e. partition_cmp (let start : Partition = record { day = l.days.first; pname = 0 } in start) e.0 ≡ Greater → ⊥) l.entries

abbrev pub decreases-loop-partition : goal.decreases-loop-partition
decreases-loop-partition l = length l.entries
