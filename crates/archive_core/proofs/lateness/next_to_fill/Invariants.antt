use Rattle.archive_core.proofs.Least.{IsLeastSoFar}
use Rattle.archive_core.proofs.lateness.next_to_fill.Given as goal

abbrev pub invariant-loop-i : goal.invariant-loop-i
invariant-loop-i l = IsLeastSoFar l.exponent l.rows l.fills l.i l.least
