use Rattle.std.proofs.Common.{◌∙◌}
use Rattle.param_segments.proofs.KeyPlaces.{segment_more, segments_end}
use Rattle.param_segments.proofs.decoding.keys_of.Goals as goal

pub loop-i-preserved : goal.loop-i-preserved
loop-i-preserved c =
    segment_more c.loop-i.places.items c.put_keys.new.places.items _ c.loop-i.i c.args.segments.now c.index-segments-i.result c.as_slice.result.now c.loop-i-test.true c.index-segments-i.is (c.as_slice.ensures ∙ c.in_ok-keys.ensures) c.in_ok-put_keys.ensures c.loop-i.invariant

pub returns : goal.returns
returns c = segments_end c.loop-i.places.items _ c.loop-i.i c.args.segments.now c.loop-i-test.false c.loop-i.invariant
