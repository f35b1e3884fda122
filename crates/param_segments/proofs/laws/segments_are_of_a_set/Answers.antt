use Rattle.param_segments.proofs.SegmentsOfSet.{segments_are_of_a_set}
use Rattle.param_segments.proofs.laws.segments_are_of_a_set.Goals as goal

pub returns : goal.returns
returns c = segments_are_of_a_set
