use Rattle.std.proofs.Common.{◌≡◌}
use Rattle.turn_cell.specs.Pass.{IsFree}
use Rattle.live_tests.proofs.callers.fill_hundred.Given as goal

abbrev pub invariant-fills : goal.invariant-fills
invariant-fills g l = IsFree l.live.cell l.pass × (l.pass.share ≡ l.fn.pass.share)
