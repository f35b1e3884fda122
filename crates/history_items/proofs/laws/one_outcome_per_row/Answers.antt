use Rattle.history_items.proofs.Outcomes.{length-outcomes}
use Rattle.history_items.proofs.laws.one_outcome_per_row.Goals as goal

pub returns : goal.returns
returns c = length-outcomes
