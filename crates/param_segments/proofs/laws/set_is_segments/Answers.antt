use Rattle.param_segments.proofs.Stored.{set_is_segments}
use Rattle.param_segments.proofs.laws.set_is_segments.Goals as goal

pub returns : goal.returns
returns c = set_is_segments
