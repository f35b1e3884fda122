use Rattle.history_items.proofs.ItemLists.{rows_below_front}
use Rattle.history_items.proofs.laws.rows_below_front.Goals as goal

pub returns : goal.returns
returns c = rows_below_front
