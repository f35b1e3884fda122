use Rattle.std.proofs.Common.{◌≡◌, ◌-◌, length}
use Rattle.space_packet.specs.Cut.{IsCut}
use Rattle.space_packet.proofs.split.split.Given as goal

abbrev pub invariant-loop-range : goal.invariant-loop-range
invariant-loop-range l = record {
  dump : l.places.dump ≡ l.dump;
  cut : IsCut l.dump l.packets l.places.at;
}

abbrev pub decreases-loop-range : goal.decreases-loop-range
decreases-loop-range l = length l.dump - l.places.at
