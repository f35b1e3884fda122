use Rattle.history_items.proofs.LastSaid.{base_is_of_last_done}
use Rattle.history_items.proofs.laws.base_is_of_last_done.Goals as goal

pub returns : goal.returns
returns c = base_is_of_last_done
