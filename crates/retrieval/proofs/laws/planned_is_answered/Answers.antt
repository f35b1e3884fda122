use Rattle.retrieval.proofs.Planned.{planned}
use Rattle.retrieval.proofs.laws.planned_is_answered.Goals as goal

pub returns : goal.returns
returns c = planned
