use Rattle.std.proofs.Common.{◌≡◌, ◌+◌, length, not}
use Rattle.std.specs.Prelude.{filter}
use Rattle.late_marks.specs.Mark.{is_late_mark}
use Rattle.late_marks.specs.Marks.{late_of}
use Rattle.late_marks.proofs.marks.LateMarks.late.Given as goal

abbrev pub invariant-loop-mark : goal.invariant-loop-mark
invariant-loop-mark l = l.late ≡ late_of l.self + length (filter (λ e. not (is_late_mark e.1)) l.mark-iterator)
