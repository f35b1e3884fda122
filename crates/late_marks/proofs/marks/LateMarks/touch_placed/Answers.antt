use Rattle.std.proofs.Common.{◌++◌, ◌∙◌, sym, subst}
use Rattle.std.specs.Prelude.{Option}
use Rattle.late_marks.specs.declared.mark.Mark.{Mark}
use Rattle.late_marks.specs.Mark.{StandAt}
use Rattle.late_marks.specs.Marks.{mark_of}
use Rattle.late_marks.proofs.Positions.{rows_placed, touched_many}
use Rattle.late_marks.proofs.marks.LateMarks.touch_placed.Goals as goal

pub returns-clause-each : goal.returns-clause-each
returns-clause-each c positions is = c.touch.ensures.marked.set ∙ touched_many (mark_of c.args.self.now c.args.interval) positions c.args.last is

pub returns-clause-rows : goal.returns-clause-rows
returns-clause-rows c positions placed is stand =
    subst (λ (m : Option Mark). StandAt m (positions ++ placed)) (sym c.touch.ensures.marked.set) (rows_placed (mark_of c.args.self.now c.args.interval) c.args.last positions placed is stand)
