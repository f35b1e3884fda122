use Rattle.history_items.proofs.FillLists.{base_after_item, flight_after_item}
use Rattle.history_items.proofs.laws.bases_after_item.Goals as goal

pub returns : goal.returns
returns c = λ interval fills item. (base_after_item interval fills item, flight_after_item interval fills item)
