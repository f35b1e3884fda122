use Rattle.std.proofs.Common.{ℕ, ◌≡◌, List, true, subst}
use Rattle.std.specs.Prelude.{◌↔◌}
use Rattle.history_items.specs.declared.items.Item.{Item}
use Rattle.history_items.specs.Late.{IsLate}
use Rattle.fill_tracker.specs.FillTracker.{FillTrackerView, AreMarksOf}
use Rattle.fill_tracker.proofs.Marked.{late_true}
use Rattle.fill_tracker.proofs.tracker.FillTracker.is_late.Goals as goal

pub returns : goal.returns
returns c =
    let s = c.self.inside in
    subst (λ (x : FillTrackerView). (exponent : ℕ) (history : List Item) → AreMarksOf exponent history x.fills x.marks → (c.is_late.result ≡ true) ↔ IsLate exponent c.args.interval history x.fills) c.self.view_is
    (λ exponent history are. late_true exponent history s.items.items s.marks are c.args.interval c.is_late.result c.is_late.ensures.mark)
