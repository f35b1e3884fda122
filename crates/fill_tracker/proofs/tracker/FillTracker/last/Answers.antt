use Rattle.std.proofs.Common.{ℕ, ◌≡◌, List, subst, ap, ◌∙◌}
use Rattle.std.specs.Option.{is_some}
use Rattle.history_items.specs.declared.items.Item.{Item}
use Rattle.history_items.specs.Late.{last_in}
use Rattle.fill_tracker.specs.FillTracker.{FillTrackerView, AreMarksOf}
use Rattle.fill_tracker.proofs.Marked.{last_is, mapped_is_some}
use Rattle.late_marks.specs.Marks.{has_rows, mark_of}
use Rattle.fill_tracker.proofs.tracker.FillTracker.last.Goals as goal

pub returns-clause-last : goal.returns-clause-last
returns-clause-last c =
    let s = c.self.inside in
    subst (λ (x : FillTrackerView). (exponent : ℕ) (history : List Item) → AreMarksOf exponent history x.fills x.marks → c.last.result ≡ last_in exponent c.args.interval history) c.self.view_is
    (λ exponent history are. c.last.ensures ∙ last_is exponent history s.items.items s.marks are c.args.interval)

pub returns-clause-rows : goal.returns-clause-rows
returns-clause-rows c =
    let s = c.self.inside in
    subst (λ (x : FillTrackerView). is_some c.last.result ≡ has_rows x.marks c.args.interval) c.self.view_is
    (ap is_some c.last.ensures ∙ mapped_is_some (mark_of s.marks c.args.interval))
