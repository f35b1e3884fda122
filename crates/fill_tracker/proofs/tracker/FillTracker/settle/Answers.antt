use Rattle.std.proofs.Common.{List, length, ◌∙◌, ap, sym, arith}
use Rattle.history_items.specs.declared.fills.Fill.{Fill}
use Rattle.history_items.specs.FillList.{flights_of}
use Rattle.interval_fills.specs.Steps.{all_freed}
use Rattle.fill_tracker.proofs.Flying.{fewer_flights, settles_more, settled}
use Rattle.fill_tracker.proofs.tracker.FillTracker.settle.Goals as goal

pub loop-interval-smaller : goal.loop-interval-smaller
loop-interval-smaller c =
    let at = sym c.first.ensures ∙ c.in-Some.is in
    omega (arith, ap (λ (f : List Fill). length (flights_of f)) c.free.ensures.fills, fewer_flights c.loop-interval.self.fills c.in-Some.interval at)

pub loop-interval-preserved : goal.loop-interval-preserved
loop-interval-preserved c =
    let inv = c.loop-interval.invariant in
    let at = sym c.first.ensures ∙ c.in-Some.is in record {
      settles = ap all_freed c.free.ensures.fills ∙ settles_more c.loop-interval.self.fills c.in-Some.interval at ∙ inv.settles;
      marks = λ exponent history are. c.free.ensures.marks exponent history (inv.marks exponent history are);
    }

pub returns-clause-fills : goal.returns-clause-fills
returns-clause-fills c = settled c.loop-interval.self.fills (sym c.first.ensures ∙ c.in_default.is) ∙ c.loop-interval.invariant.settles
