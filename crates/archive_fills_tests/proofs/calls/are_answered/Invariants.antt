use Rattle.archive_fills_tests.specs.Growth.{GoesOnFrom}
use Rattle.archive_fills_tests.proofs.calls.are_answered.Given as goal

abbrev pub invariant-loop-call : goal.invariant-loop-call
invariant-loop-call g l = GoesOnFrom l.fn.store l.store
