use Rattle.std.proofs.Common.{◌≡◌, ◌+◌, ◌^◌, ◌<◌, length}
use Rattle.partitions.proofs.partitions.Partitions.row_count.Given as goal

abbrev pub invariant-loop-count : goal.invariant-loop-count
invariant-loop-count l = record {
  counted : l.count + length l.places ≡ length l.initial.places;
  short : length l.initial.places < 2 ^ 32;
}

abbrev pub decreases-loop-count : goal.decreases-loop-count
decreases-loop-count l = length l.places
