use Rattle.std.proofs.Common.{◌≡◌, ◌+◌, None, false, sym, ◌∙◌, ap, arith}
use Rattle.std.specs.BTreeMap.{insert_entry}
use Rattle.late_marks.specs.Mark.{is_late_free_mark}
use Rattle.intervals.specs.Interval.{interval_cmp}
use Rattle.late_marks.specs.Marks.{Marks, mark_in, one_if}
use Rattle.late_marks.specs.MarkIndexes.{some_if, IsUpdatedAt}
use Rattle.late_marks.proofs.LateFree.{AreConsistent-added, Marked-insert, fresh_from}
use Rattle.late_marks.proofs.marks.LateMarks.add.Goals as goal

absent : (c : goal.After-update_late_free) → mark_in c.self.inside.marks.entries c.args.interval ≡ None
absent c =
    fresh_from c.args.self.now c.self.inside.marks.entries c.args.interval (ap (λ (m : Marks). m.marks) (sym c.self.view_is)) c.requires.fresh

added : (c : goal.After-update_late_free) → (c.insert.new.self.entries ≡ insert_entry interval_cmp c.self.inside.marks.entries c.args.interval c.args.mark) × (c.insert.new.self.room + 1 ≡ c.self.inside.marks.room)
added c =
    let none : c.insert.result ≡ None = c.insert.ensures.found ∙ absent c in
    rw none at c.insert.ensures.absent

updated_at : (c : goal.After-update_late_free) → IsUpdatedAt c.self.inside.late_free c.update_late_free.new.late_free c.args.interval false (is_late_free_mark c.args.mark)
updated_at c =
    let e = c.update_late_free.ensures in
    record {
      set = e.set ∙ ap some_if c.is_late_free.ensures;
      others = e.others;
      rising = e.rising;
      room = omega (arith, e.room, ap one_if c.is_late_free.ensures);
    }

pub invariant_of-self : goal.invariant_of-self
invariant_of-self c =
    AreConsistent-added c.self.inside.marks c.insert.new.self c.self.inside.late_free c.update_late_free.new.late_free c.args.interval c.args.mark c.self.invariant (absent c) (added c).0 (added c).1 (updated_at c)

pub returns-clause-marked : goal.returns-clause-marked
returns-clause-marked c =
    Marked-insert c.args.self.now _ c.self.inside.marks.entries c.args.interval c.args.mark c.self.invariant.rising (ap (λ (m : Marks). m.marks) (sym c.self.view_is)) (added c).0
