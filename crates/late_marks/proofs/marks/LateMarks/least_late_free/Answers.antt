use Rattle.std.proofs.Common.{None, Some, ap}
use Rattle.late_marks.specs.Marks.{Marks}
use Rattle.late_marks.proofs.LateFree.{first_late_free}
use Rattle.late_marks.proofs.marks.LateMarks.least_late_free.Goals as goal

pub returns-in_err-interval : goal.returns-in_err-interval
returns-in_err-interval c =
    rw c.from_residual.ensures (first_late_free c.args.self.now c.self.inside.marks c.self.inside.late_free None c.self.invariant (ap (λ (m : Marks). m.marks) c.self.view_is) c.in_err-interval.ensures.least)

pub returns : goal.returns
returns c =
    first_late_free c.args.self.now c.self.inside.marks c.self.inside.late_free (Some (c.in_ok-interval.interval, tt)) c.self.invariant (ap (λ (m : Marks). m.marks) c.self.view_is) c.in_ok-interval.ensures.least
