use Rattle.std.proofs.Common.{length, map}
use Rattle.partitions.specs.NameDay.{name_day}
use Rattle.partitions.specs.NameDayFilter.{passes_filter}
use Rattle.partitions.proofs.Leaps.{IsUnderWay}
use Rattle.partitions.proofs.indexes.of_names.Given as goal

abbrev pub invariant-loop-at : goal.invariant-loop-at
invariant-loop-at l = IsUnderWay (passes_filter l.name_day_filter) l.index.entries l.entries (map name_day l.parts)

abbrev pub decreases-loop-at : goal.decreases-loop-at
decreases-loop-at l = length l.entries
