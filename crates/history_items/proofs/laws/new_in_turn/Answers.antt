use Rattle.history_items.proofs.Outcomes.{new_in_turn}
use Rattle.history_items.proofs.laws.new_in_turn.Goals as goal

pub returns : goal.returns
returns c = new_in_turn
