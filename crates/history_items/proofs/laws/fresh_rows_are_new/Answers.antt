use Rattle.history_items.proofs.Outcomes.{fresh_new, length-fresh}
use Rattle.history_items.proofs.laws.fresh_rows_are_new.Goals as goal

pub returns : goal.returns
returns c = λ history rows. (fresh_new history rows, length-fresh history rows)
