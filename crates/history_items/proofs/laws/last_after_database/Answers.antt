use Rattle.history_items.proofs.Late.{last_after_database}
use Rattle.history_items.proofs.laws.last_after_database.Goals as goal

pub returns : goal.returns
returns c = last_after_database
