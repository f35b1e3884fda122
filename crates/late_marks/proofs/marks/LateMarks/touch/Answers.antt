use Rattle.std.proofs.Common.{◌≡◌, ℕ, List, [], ◌∷◌, ◌++◌, Some, ◌∙◌, ap}
use Rattle.std.specs.Prelude.{Option}
use Rattle.late_marks.specs.declared.mark.Mark.{Mark}
use Rattle.late_marks.specs.Mark.{StandAt, touched}
use Rattle.late_marks.specs.Marks.{Marks, mark_of}
use Rattle.late_marks.proofs.Positions.{rows_touched}
use Rattle.late_marks.proofs.marks.LateMarks.touch.Goals as goal

-- the mark that was found, one row more, and the mark that stands now
one_more : (old found now : Option Mark) (given : Mark) (position : ℕ) → found ≡ old → given ≡ touched found position → now ≡ Some given →
    (positions : List ℕ) → StandAt old positions → StandAt now (positions ++ position ∷ [])
one_more old found now given position same more set positions stand =
    rw (set ∙ ap (λ (m : Mark). Some m) (more ∙ ap (λ (o : Option Mark). touched o position) same)) (rows_touched old position positions stand)

pub returns-in-Some-clause-rows : goal.returns-in-Some-clause-rows
returns-in-Some-clause-rows c =
    one_more _ _ _ _ c.args.position (c.get-mark.ensures ∙ ap (λ (m : Marks). mark_of m c.args.interval) c.self.view_is) c.touched.ensures c.change.ensures.marked.set

pub returns-in-None-clause-rows : goal.returns-in-None-clause-rows
returns-in-None-clause-rows c =
    one_more _ _ _ _ c.args.position (c.get-mark.ensures ∙ ap (λ (m : Marks). mark_of m c.args.interval) c.self.view_is) c.touched-in-None.ensures c.add.ensures.marked.set
