use Rattle.segment_codec.proofs.Segments.{one_segment}
use Rattle.segment_codec.proofs.laws.segments_are_apart.Goals as goal

pub returns : goal.returns
returns c = one_segment
