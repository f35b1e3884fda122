use Rattle.history_items.proofs.Outcomes.{fresh_added}
use Rattle.history_items.proofs.laws.fresh_rows_are_added.Goals as goal

pub returns : goal.returns
returns c = fresh_added
