use Rattle.std.proofs.Common.{◌∙◌, ◌<ℤ◌, pos, ℤ, ap, arith, rules, FitsSigned}
use Rattle.std.specs.Prelude.{◌-ℤ◌}
use Rattle.std.specs.Int.{w64}
use Rattle.std.proofs.lemmas.Int.{ints, to_z-of_z}
use Rattle.intervals.specs.Interval.{interval_of}
use Rattle.glance.proofs.Spans.{span_is}
use Rattle.glance.proofs.span.Span.met.Goals as goal

pub returns : goal.returns
returns c = λ interval.
    let request = c.args.request.now in
    let some : request.from <ℤ request.to = grind (arith, ints, c.if-request.false) in
    let from_fits : FitsSigned w64 request.from = search rules in
    let to_fits : FitsSigned w64 request.to = search rules in
    let first = c.at.ensures ∙ ap (interval_of c.args.exponent) (to_z-of_z w64 request.from from_fits) in
    let last = c.interval_before.ensures ∙ ap (λ (t : ℤ). interval_of c.args.exponent (t -ℤ pos 1)) (to_z-of_z w64 request.to to_fits) in
    span_is c.args.exponent request (record { first = c.at.result; last = c.interval_before.result }) interval some first last
