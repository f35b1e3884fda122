use Rattle.std.proofs.Common.{sym, subst}
use Rattle.fill_tracker.specs.FillTracker.{FillTrackerView}
use Rattle.fill_tracker.specs.Placed.{AreMarksOfPlaced}
use Rattle.fill_tracker.proofs.Placed.{placed_more}
use Rattle.fill_tracker.proofs.tracker.FillTracker.touch_placed.Goals as goal

pub returns-clause-marks : goal.returns-clause-marks
returns-clause-marks c exponent placed run is are =
    let were = subst (λ (t : FillTrackerView). AreMarksOfPlaced exponent placed t.fills t.marks) (sym c.self.view_is) are in
    placed_more exponent placed run c.self.inside.items.items c.self.inside.marks c.touch.new.self c.args.interval c.args.last is were c.touch.ensures.marked
