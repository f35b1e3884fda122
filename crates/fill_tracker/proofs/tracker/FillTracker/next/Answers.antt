use Rattle.std.proofs.Common.{ℕ, List, subst}
use Rattle.history_items.specs.declared.items.Item.{Item}
use Rattle.fill_tracker.specs.FillTracker.{FillTrackerView, AreMarksOf}
use Rattle.fill_tracker.proofs.Marked.{next_is}
use Rattle.interval_fills.specs.Steps.{IsNextToFill, state_of}
use Rattle.fill_tracker.proofs.tracker.FillTracker.next.Goals as goal

pub returns-clause-next : goal.returns-clause-next
returns-clause-next c =
    let s = c.self.inside in
    subst (λ (x : FillTrackerView). (exponent : ℕ) (history : List Item) → AreMarksOf exponent history x.fills x.marks → IsNextToFill exponent (state_of history x.fills) c.least_late_free.result) c.self.view_is
    (λ exponent history are. next_is exponent history s.items.items s.marks are c.least_late_free.result c.least_late_free.ensures)
