use Rattle.std.proofs.Common.{◌≡◌}
use Rattle.turn_cell.specs.Pass.{IsFree}
use Rattle.live_tests.proofs.glance_threads.ingest_and_fill.Given as goal

abbrev pub invariant-loop-i : goal.invariant-loop-i
invariant-loop-i g l = IsFree l.live.cell l.pass × (l.pass.share ≡ l.fn.pass.share)
