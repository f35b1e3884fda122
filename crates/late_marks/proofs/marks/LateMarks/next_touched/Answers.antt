use Rattle.std.proofs.Common.{List, None, Some, sym, ◌∙◌, ap}
use Rattle.std.specs.Prelude.{slice_get}
use Rattle.intervals.specs.declared.interval.Interval.{Interval}
use Rattle.late_marks.specs.declared.mark.Mark.{Mark}
use Rattle.late_marks.specs.Marks.{Marks}
use Rattle.late_marks.proofs.LateFree.{next_from}
use Rattle.late_marks.proofs.marks.LateMarks.next_touched.Goals as goal

pub returns-in_err-interval : goal.returns-in_err-interval
returns-in_err-interval c =
    let none = sym (ap (λ (l : List (Interval × Mark)). slice_get l 0) (sym c.from_key.ensures.entries ∙ c.in_err-interval.ensures.steps.0)) in
    rw c.from_residual.ensures (next_from c.args.self.now c.self.inside.marks.entries c.args.from None (rw c.from_key.ensures.entries at c.from_key.ensures.rising) (ap (λ (m : Marks). m.marks) c.self.view_is) none)

pub returns : goal.returns
returns c =
    let first = sym (ap (λ (l : List (Interval × Mark)). slice_get l 0) (sym c.from_key.ensures.entries ∙ c.in_ok-interval.ensures.steps)) in
    next_from c.args.self.now c.self.inside.marks.entries c.args.from (Some c.in_ok-interval.field-0.now) (rw c.from_key.ensures.entries at c.from_key.ensures.rising) (ap (λ (m : Marks). m.marks) c.self.view_is) first
