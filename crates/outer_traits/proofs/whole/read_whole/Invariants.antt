use Rattle.std.proofs.Common.{◌≤◌, ◌<◌, ◌-◌, vec_len}
use Rattle.outer_traits.specs.Outside.{Stays}
use Rattle.outer_traits.specs.Whole.{IsTaken}
use Rattle.outer_traits.proofs.whole.read_whole.Given as goal

abbrev pub invariant-loop-n : goal.invariant-loop-n
invariant-loop-n g l = record {
  piece : 0 < vec_len l.piece;
  within : vec_len l.octets ≤ l.limit;
  known : IsTaken (g.S.Source.state l.fn.source).left l.octets.items (g.S.Source.state l.source).left;
  no_fault : Stays (g.S.Source.state l.fn.source).faults (g.S.Source.state l.source).faults;
  reliable : (g.S.Source.state l.fn.source).never_fails → (g.S.Source.state l.source).never_fails × Stays (g.S.Source.state l.fn.source).faults (g.S.Source.state l.source).faults;
}

abbrev pub decreases-loop-n : goal.decreases-loop-n
decreases-loop-n g l = l.limit - vec_len l.octets
