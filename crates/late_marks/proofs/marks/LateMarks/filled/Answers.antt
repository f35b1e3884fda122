use Rattle.std.proofs.Common.{ap, arith}
use Rattle.late_marks.specs.Marks.{one_if}
use Rattle.late_marks.proofs.marks.LateMarks.filled.Goals as goal

pub returns-in-Some-clause-fewer : goal.returns-in-Some-clause-fewer
returns-in-Some-clause-fewer c = λ was is. omega (arith, c.change.ensures.marked.late, ap one_if was, ap one_if is)
