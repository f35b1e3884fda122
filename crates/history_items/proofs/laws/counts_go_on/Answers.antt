use Rattle.history_items.proofs.FillLists.{Rising-append}
use Rattle.history_items.proofs.laws.counts_go_on.Goals as goal

pub returns : goal.returns
returns c = Rising-append
