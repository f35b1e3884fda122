use Rattle.std.proofs.Common.{◌≡◌, List, length, true, sym, ◌∙◌, ap, subst, arith}
use Rattle.intervals.specs.declared.interval.Interval.{Interval}
use Rattle.history_items.specs.declared.fills.Fill.{Fill}
use Rattle.history_items.specs.declared.fills.Fill.TheVariants.{Done}
use Rattle.history_items.specs.FillList.{flights_without, flights_of}
use Rattle.fill_tracker.specs.FillTracker.{FillTrackerView, AreMarksOf}
use Rattle.fill_tracker.specs.Placed.{AreMarksOfPlaced}
use Rattle.fill_tracker.proofs.Flying.{flights_push, length_without}
use Rattle.fill_tracker.proofs.Marked.{finished, finished_placed}
use Rattle.late_marks.specs.Marks.{has_rows}
use Rattle.fill_tracker.proofs.tracker.FillTracker.finish.Goals as goal

pub invariant_of-self : goal.invariant_of-self
invariant_of-self c =
    let s = c.self.inside in
    let k = c.self.invariant in
    let i : Interval = c.args.interval in
    let room = ap (λ (x : FillTrackerView). x.room) c.self.view_is in record {
      flights_are = c.take_out.ensures.items ∙ ap (flights_without i) k.flights_are ∙ sym (flights_push s.items.items (Done i c.args.base)) ∙ ap flights_of (sym c.push_reserved.ensures.items);
      places = omega (arith, c.push_reserved.ensures.len, c.push_reserved.ensures.capacity, c.take_out.new.flights.ok.0, s.flights.ok.0, ap length c.take_out.ensures.items, length_without i s.flights.items, c.requires.room, room, k.places);
    }

pub returns-clause-marks : goal.returns-clause-marks
returns-clause-marks c = λ exponent history are.
    let s = c.self.inside in
    let i : Interval = c.args.interval in
    let mine = subst (λ (x : FillTrackerView). AreMarksOf exponent history x.fills x.marks) (sym c.self.view_is) are in
    let rows = subst (λ (x : FillTrackerView). has_rows x.marks i ≡ true) (sym c.self.view_is) c.requires.rows in
    subst (λ (f : List Fill). AreMarksOf exponent history f c.free.new.self) (sym c.push_reserved.ensures.items)
    (finished exponent history s.items.items s.marks c.filled.new.self c.free.new.self i c.args.base mine rows c.filled.ensures.marked c.free.ensures.marked)

pub returns-clause-placed : goal.returns-clause-placed
returns-clause-placed c = λ exponent placed are.
    let s = c.self.inside in
    let i : Interval = c.args.interval in
    let mine = subst (λ (x : FillTrackerView). AreMarksOfPlaced exponent placed x.fills x.marks) (sym c.self.view_is) are in
    let rows = subst (λ (x : FillTrackerView). has_rows x.marks i ≡ true) (sym c.self.view_is) c.requires.rows in
    subst (λ (f : List Fill). AreMarksOfPlaced exponent placed f c.free.new.self) (sym c.push_reserved.ensures.items)
    (finished_placed exponent placed s.items.items s.marks c.filled.new.self c.free.new.self i c.args.base mine rows c.filled.ensures.marked c.free.ensures.marked)
