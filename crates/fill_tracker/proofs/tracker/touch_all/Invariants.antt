use Rattle.std.proofs.Common.{length}
use Rattle.fill_tracker.proofs.Runs.{Touched}
use Rattle.fill_tracker.proofs.tracker.touch_all.Given as goal

abbrev pub invariant-loop-rest : goal.invariant-loop-rest
invariant-loop-rest l = Touched l.exponent l.rows l.rest l.first l.position l.fn.marks l.marks

abbrev pub decreases-loop-rest : goal.decreases-loop-rest
decreases-loop-rest l = length l.rest
