use Rattle.retrieval.proofs.FilledAnswers.{filled_answered}
use Rattle.retrieval.proofs.laws.filled_is_answered.Goals as goal

pub returns : goal.returns
returns c = filled_answered
