use Rattle.std.proofs.Common.{◌≡◌, ◌≤◌, length}
use Rattle.outer_real.proofs.pipes.fill.Given as goal

abbrev pub invariant-loop : goal.invariant-loop
invariant-loop g l = record {
  len : length l.into ≡ length l.fn.into;
  filled : l.filled ≤ length l.into;
}
