use Rattle.history_items.proofs.Late.{late_by_last}
use Rattle.history_items.proofs.laws.late_by_last.Goals as goal

pub returns : goal.returns
returns c = late_by_last
