use Rattle.std.proofs.Common.{sym, ◌∙◌, ap, arith}
use Rattle.block_map.specs.Index.{Listing}
use Rattle.intervals.specs.declared.interval.Interval.{Interval}
use Rattle.late_marks.specs.declared.mark.Mark.{Mark}
use Rattle.late_marks.specs.Mark.{is_late_free_mark}
use Rattle.late_marks.specs.Marks.{Marks, one_if}
use Rattle.late_marks.specs.MarkIndexes.{some_if, IsUpdatedAt}
use Rattle.late_marks.proofs.LateFree.{AreConsistent-changed, Marked-insert, room-kept}
use Rattle.late_marks.proofs.marks.LateMarks.change.Goals as goal

pub update_late_free-requires-clause-room : goal.update_late_free-requires-clause-room
update_late_free-requires-clause-room c = λ rests is_late_free.
    room-kept c.self.inside.marks c.self.inside.late_free c.args.interval c.in-Some.old c.self.invariant (sym c.in-Some.ensures.found) (sym c.is_late_free.ensures ∙ rests)

updated_at : (c : goal.After-update_late_free) → IsUpdatedAt c.self.inside.late_free c.update_late_free.new.late_free c.args.interval (is_late_free_mark c.in-Some.old) (is_late_free_mark c.args.mark)
updated_at c =
    let e = c.update_late_free.ensures in
    record {
      set = e.set ∙ ap some_if c.is_late_free-in-Some.ensures;
      others = e.others;
      rising = e.rising;
      room = omega (arith, e.room, ap one_if c.is_late_free.ensures, ap one_if c.is_late_free-in-Some.ensures);
    }

pub invariant_of-self : goal.invariant_of-self
invariant_of-self c =
    AreConsistent-changed c.self.inside.marks c.replace.new.self c.self.inside.late_free c.update_late_free.new.late_free c.args.interval c.in-Some.old c.args.mark c.self.invariant (sym c.in-Some.ensures.found) (ap (λ (l : Listing Interval Mark). l.entries) c.in-Some.ensures.replaced) (ap (λ (l : Listing Interval Mark). l.room) c.in-Some.ensures.replaced) (updated_at c)

pub returns-in-Some-clause-marked : goal.returns-in-Some-clause-marked
returns-in-Some-clause-marked c =
    Marked-insert c.args.self.now _ c.self.inside.marks.entries c.args.interval c.args.mark c.self.invariant.rising (ap (λ (m : Marks). m.marks) (sym c.self.view_is)) (ap (λ (l : Listing Interval Mark). l.entries) c.in-Some.ensures.replaced)
