use Rattle.std.proofs.Common.{◌≡◌}
use Rattle.turn_cell.specs.Pass.{IsFree}
use Rattle.live_tests.proofs.callers.ingest_hundred.Given as goal

abbrev pub invariant-loop-i : goal.invariant-loop-i
invariant-loop-i g l = IsFree l.live.cell l.pass × (l.pass.share ≡ l.fn.pass.share)
