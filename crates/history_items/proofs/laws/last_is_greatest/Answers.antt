use Rattle.history_items.proofs.Late.{last_is_greatest}
use Rattle.history_items.proofs.laws.last_is_greatest.Goals as goal

pub returns : goal.returns
returns c = last_is_greatest
