use Rattle.history_items.proofs.Late.{last_after_row}
use Rattle.history_items.proofs.laws.last_after_row.Goals as goal

pub returns : goal.returns
returns c = last_after_row
