use Rattle.std.proofs.Common.{refl}
use Rattle.param_segments.specs.RowPlaces.{IsSegmentOf}
use Rattle.param_segments.proofs.Asked.{holds_of_all}
use Rattle.param_segments.proofs.asking.are_segments_of.Goals as goal

pub returns : goal.returns
returns c = (λ e. holds_of_all (IsSegmentOf c.args.mdb.now) c.args.segments.now c.loop-segment.segment-index c.loop-segment-test.false c.loop-segment.invariant, λ all. refl)
