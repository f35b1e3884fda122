use Rattle.history_items.proofs.ItemLists.{placed_from-append}
use Rattle.history_items.proofs.laws.places_go_on.Goals as goal

pub returns : goal.returns
returns c = placed_from-append
