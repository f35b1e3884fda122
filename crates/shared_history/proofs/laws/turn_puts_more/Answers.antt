use Rattle.shared_history.proofs.Putting.{turn_puts_more}
use Rattle.shared_history.proofs.laws.turn_puts_more.Goals as goal

pub returns : goal.returns
returns c = turn_puts_more
