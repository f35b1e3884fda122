use Rattle.param_segments.proofs.Stored.{one_spelling}
use Rattle.param_segments.proofs.laws.spelling_is_one.Goals as goal

pub returns : goal.returns
returns c = one_spelling
