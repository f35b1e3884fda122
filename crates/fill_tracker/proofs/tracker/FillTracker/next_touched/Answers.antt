use Rattle.std.proofs.Common.{ℕ, ◌≡◌, List, true, subst}
use Rattle.std.specs.Prelude.{◌≤ℤ◌, IsSome}
use Rattle.history_items.specs.declared.items.Item.{Item}
use Rattle.history_items.specs.Late.{last_in}
use Rattle.fill_tracker.specs.FillTracker.{FillTrackerView, AreMarksOf}
use Rattle.fill_tracker.proofs.Marked.{touched_is}
use Rattle.late_marks.specs.Marks.{IsLeast, has_rows}
use Rattle.fill_tracker.proofs.tracker.FillTracker.next_touched.Goals as goal

pub returns-clause-touched : goal.returns-clause-touched
returns-clause-touched c =
    let s = c.self.inside in
    subst (λ (x : FillTrackerView). (exponent : ℕ) (history : List Item) → AreMarksOf exponent history x.fills x.marks → IsLeast (λ i. (c.args.from.0 ≤ℤ i.0) × IsSome (last_in exponent i history)) c.next_touched.result) c.self.view_is
    (λ exponent history are. touched_is exponent history s.items.items s.marks are c.args.from c.next_touched.result c.next_touched.ensures)

pub returns-clause-marks : goal.returns-clause-marks
returns-clause-marks c = subst (λ (x : FillTrackerView). IsLeast (λ i. (c.args.from.0 ≤ℤ i.0) × (has_rows x.marks i ≡ true)) c.next_touched.result) c.self.view_is c.next_touched.ensures
