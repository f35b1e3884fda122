use Rattle.std.proofs.Common.{◌+◌, ◌-◌, [], ◌∷◌, ap, refl, subst, arith, w64}
use Rattle.std.proofs.lemmas.Int.{to_z-of_z}
use Rattle.histogram.specs.Times.{HistogramView}
use Rattle.histogram.specs.Near.{span_of_time}
use Rattle.histogram.specs.Histogram.{histogram_view, IsHistogram}
use Rattle.histogram.proofs.Added.{IsAddition, records-append, histogram-append, added_to, added}
use Rattle.histogram.proofs.histogram.Histogram.add.Goals.{After-put_span}
use Rattle.histogram.proofs.histogram.Histogram.add.Goals as goal

-- after the calls the fields have one more time
put_in : (c : After-put_span) → IsAddition c.args.pname (span_of_time c.args.time) c.args.self.now (histogram_view c.put_span.new.index (c.self.inside.room - 1)) × IsHistogram c.put_span.new.index (c.self.inside.rows + 1) (c.self.inside.room - 1)
put_in c =
    let time = to_z-of_z w64 c.args.time c.ranges.time in
    let pname = c.args.pname in
    let one = span_of_time c.args.time in
    let index = c.self.inside.index in
    let new = c.put_span.new.index in
    let put = rw time at c.put_span.ensures in
    let room = ap (λ (h : HistogramView). h.room) c.self.view_is in
    let kept = c.self.invariant in
    let left = c.self.inside.room - 1 in (
      subst (λ (h : HistogramView). IsAddition pname one h (histogram_view new left)) c.self.view_is (added_to pname one index new put c.self.inside.room left),
      added pname one index new put (c.args.time ∷ []) refl c.self.inside.rows c.self.inside.room left kept.times kept.counted
          (omega (arith, room, c.requires, kept.has_room)) (omega (arith, room, c.requires, kept.small)),
    )

pub invariant_of-self : goal.invariant_of-self
invariant_of-self c = (put_in (goal.at.invariant_of-self c).After-put_span).1

pub returns-clause-times : goal.returns-clause-times
returns-clause-times c =
    histogram-append c.args.pname (span_of_time c.args.time) c.args.self.now (histogram_view c.put_span.new.index (c.self.inside.room - 1)) (put_in (goal.at.returns-clause-times c).After-put_span).0 (c.args.time ∷ []) refl

pub returns-clause-added : goal.returns-clause-added
returns-clause-added c =
    records-append c.args.pname (span_of_time c.args.time) c.args.self.now (histogram_view c.put_span.new.index (c.self.inside.room - 1)) (put_in (goal.at.returns-clause-added c).After-put_span).0 (c.args.time ∷ []) refl

pub returns-clause-others : goal.returns-clause-others
returns-clause-others c = (put_in (goal.at.returns-clause-others c).After-put_span).0.others
