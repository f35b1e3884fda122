use Rattle.history_items.proofs.Databases.{names_go_on}
use Rattle.history_items.proofs.laws.names_keep_places.Goals as goal

pub returns : goal.returns
returns c = names_go_on
