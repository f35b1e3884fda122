use Rattle.history_items.proofs.ItemLists.{databases_in-append, rows_in-append}
use Rattle.history_items.proofs.laws.parts_have_their_own.Goals as goal

pub returns : goal.returns
returns c = λ before after. (rows_in-append before after, databases_in-append before after)
