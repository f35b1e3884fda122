use Rattle.std.proofs.Common.{◌≡◌, List, sym, subst, ap, ◌∙◌}
use Rattle.history_items.specs.declared.fills.Fill.{Fill}
use Rattle.history_items.specs.Fills.{reopened}
use Rattle.fill_tracker.specs.FillTracker.{FillTrackerView, AreMarksOf}
use Rattle.fill_tracker.proofs.Marked.{cleared, all_written}
use Rattle.fill_tracker.proofs.tracker.FillTracker.clear_failed_writes.Goals as goal

pub returns-clause-marks : goal.returns-clause-marks
returns-clause-marks c = λ exponent history are.
    let s = c.self.inside in
    let mine = subst (λ (x : FillTrackerView). AreMarksOf exponent history x.fills x.marks) (sym c.self.view_is) are in
    let written : c.clear_failed_writes.new.fills ≡ reopened s.items.items = c.clear_failed_writes.ensures ∙ ap reopened c.as_mut_slice.ensures.value in
    subst (λ (f : List Fill). AreMarksOf exponent history f s.marks) (sym (all_written s.items.len s.items.items c.clear_failed_writes.new.fills s.items.ok.0 written))
    (cleared exponent history s.items.items s.marks mine)
