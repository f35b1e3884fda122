use Rattle.std.proofs.Common.{◌≡◌, not, refl, ◌∙◌, ap, arith}
use Rattle.std.proofs.lemmas.List.Filters.{length-filter_both}
use Rattle.intervals.specs.declared.interval.Interval.{Interval}
use Rattle.late_marks.specs.declared.mark.Mark.{Mark}
use Rattle.late_marks.specs.Mark.{is_late_mark}
use Rattle.late_marks.specs.Marks.{Marks}
use Rattle.late_marks.proofs.marks.LateMarks.late.Goals as goal

pub loop-mark-init : goal.loop-mark-init
loop-mark-init c =
    let entries = c.self.inside.marks.entries in
    let left : c.into_iter-mark-iterator.result ≡ entries = c.into_iter-mark-iterator.ensures.into_iter_gives ∙ c.iter-mark-items.ensures.entries in
    let marks : entries ≡ c.args.self.now.marks = ap (λ (m : Marks). m.marks) c.self.view_is in
    let halves = length-filter_both (λ (e : Interval × Mark). is_late_mark e.1) (λ e. not (is_late_mark e.1)) (λ e. refl) entries in
    rw (left, ← marks) (omega (arith, c.len-late.ensures.count, halves))
