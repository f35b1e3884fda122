use Rattle.std.proofs.Common.{refl}
use Rattle.param_segments.specs.RowPlaces.{IsInside}
use Rattle.param_segments.proofs.Asked.{holds_of_all}
use Rattle.param_segments.proofs.asking.are_inside.Goals as goal

pub returns : goal.returns
returns c = (λ e. holds_of_all (IsInside c.args.exponent c.args.interval.0) c.args.segments.now c.loop-segment.segment-index c.loop-segment-test.false c.loop-segment.invariant, λ all. refl)
