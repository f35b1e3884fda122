use Rattle.std.proofs.Common.{◌≡◌}
use Rattle.turn_cell.specs.Pass.{IsFree}
use Rattle.live_tests.proofs.callers.read_hundred.Given as goal

abbrev pub invariant-reads : goal.invariant-reads
invariant-reads g l = IsFree l.live.cell l.pass × (l.pass.share ≡ l.fn.pass.share)
