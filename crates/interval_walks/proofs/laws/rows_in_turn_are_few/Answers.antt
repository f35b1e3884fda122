use Rattle.interval_walks.proofs.Turns.{few_in_turn}
use Rattle.interval_walks.proofs.laws.rows_in_turn_are_few.Goals as goal

pub returns : goal.returns
returns c = few_in_turn
