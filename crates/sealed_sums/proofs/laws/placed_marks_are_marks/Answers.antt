use Rattle.sealed_sums.proofs.HistoryMarks.{last_placed_is_last, placed_marks}
use Rattle.sealed_sums.proofs.laws.placed_marks_are_marks.Goals as goal

pub returns-clause-last : goal.returns-clause-last
returns-clause-last c = last_placed_is_last

pub returns-clause-marks : goal.returns-clause-marks
returns-clause-marks c = placed_marks
