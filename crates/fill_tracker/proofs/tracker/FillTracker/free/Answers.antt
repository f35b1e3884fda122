use Rattle.std.proofs.Common.{◌≡◌, List, length, true, false, sym, ◌∙◌, ap, subst, arith}
use Rattle.std.specs.List.{list_any}
use Rattle.intervals.specs.declared.interval.Interval.{Interval}
use Rattle.history_items.specs.declared.fills.Fill.{Fill}
use Rattle.history_items.specs.declared.fills.Fill.TheVariants.{Freed}
use Rattle.history_items.specs.FillList.{flights_without, flights_of}
use Rattle.history_items.specs.Fills.{is_same}
use Rattle.fill_tracker.specs.FillTracker.{FillTrackerView, AreMarksOf}
use Rattle.fill_tracker.proofs.Flying.{flies, flights_push, fewer_without, freed_there, freed_none}
use Rattle.fill_tracker.proofs.Marked.{let_go}
use Rattle.interval_fills.specs.Steps.{freed}
use Rattle.fill_tracker.proofs.tracker.FillTracker.free.Goals as goal

pub invariant_of-self : goal.invariant_of-self
invariant_of-self c =
    let s = c.self.inside in
    let k = c.self.invariant in
    let i : Interval = c.args.interval in
    let among : list_any (is_same i) s.flights.items ≡ true = ap (list_any (is_same i)) (sym c.as_slice.ensures.value) ∙ sym c.is_among.ensures ∙ c.if-is_among.true in record {
      flights_are = c.take_out.ensures.items ∙ ap (flights_without i) k.flights_are ∙ sym (flights_push s.items.items (Freed i)) ∙ ap flights_of (sym c.push_reserved.ensures.items);
      places = omega (arith, c.push_reserved.ensures.len, c.push_reserved.ensures.capacity, c.take_out.new.flights.ok.0, s.flights.ok.0, ap length c.take_out.ensures.items, fewer_without i s.flights.items among, k.places);
    }

pub returns-then-is_among-clause-fills : goal.returns-then-is_among-clause-fills
returns-then-is_among-clause-fills c =
    let s = c.self.inside in
    let i : Interval = c.args.interval in
    let among : list_any (is_same i) s.flights.items ≡ true = ap (list_any (is_same i)) (sym c.as_slice.ensures.value) ∙ sym c.is_among.ensures ∙ c.if-is_among.true in
    c.push_reserved.ensures.items ∙ freed_there i s.items.items s.flights.items c.self.invariant.flights_are among ∙ ap (λ (x : FillTrackerView). freed i x.fills) c.self.view_is

pub returns-then-is_among-clause-room : goal.returns-then-is_among-clause-room
returns-then-is_among-clause-room c =
    let s = c.self.inside in
    let k = c.self.invariant in
    let i : Interval = c.args.interval in
    let among : list_any (is_same i) s.flights.items ≡ true = ap (list_any (is_same i)) (sym c.as_slice.ensures.value) ∙ sym c.is_among.ensures ∙ c.if-is_among.true in
    omega (arith, c.push_reserved.ensures.len, c.push_reserved.ensures.capacity, c.take_out.new.flights.ok.0, s.flights.ok.0, ap length c.take_out.ensures.items, fewer_without i s.flights.items among, k.places, ap (λ (x : FillTrackerView). x.room) c.self.view_is)

pub returns-then-is_among-clause-marks : goal.returns-then-is_among-clause-marks
returns-then-is_among-clause-marks c = λ exponent history are.
    let s = c.self.inside in
    let k = c.self.invariant in
    let i : Interval = c.args.interval in
    let among : list_any (is_same i) s.flights.items ≡ true = ap (list_any (is_same i)) (sym c.as_slice.ensures.value) ∙ sym c.is_among.ensures ∙ c.if-is_among.true in
    let mine = subst (λ (x : FillTrackerView). AreMarksOf exponent history x.fills x.marks) (sym c.self.view_is) are in
    subst (λ (f : List Fill). AreMarksOf exponent history f c.free.new.self) (sym c.push_reserved.ensures.items)
    (let_go exponent history s.items.items s.marks c.free.new.self i mine (flies i s.items.items s.flights.items k.flights_are among) c.free.ensures.marked)

pub returns-else-is_among-clause-fills : goal.returns-else-is_among-clause-fills
returns-else-is_among-clause-fills c =
    let s = c.self.inside in
    let i : Interval = c.args.interval in
    let none : list_any (is_same i) s.flights.items ≡ false = ap (list_any (is_same i)) (sym c.as_slice.ensures.value) ∙ sym c.is_among.ensures ∙ c.if-is_among.false in
    subst (λ (x : FillTrackerView). x.fills ≡ freed i x.fills) c.self.view_is (freed_none i s.items.items s.flights.items c.self.invariant.flights_are none)
