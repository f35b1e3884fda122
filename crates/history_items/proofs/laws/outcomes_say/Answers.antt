use Rattle.history_items.proofs.Outcomes.{outcomes_say}
use Rattle.history_items.proofs.laws.outcomes_say.Goals as goal

pub returns : goal.returns
returns c = outcomes_say
