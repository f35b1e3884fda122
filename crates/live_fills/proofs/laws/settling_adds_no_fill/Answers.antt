use Rattle.live_fills.proofs.Late.{settling_adds_none}
use Rattle.live_fills.proofs.laws.settling_adds_no_fill.Goals as goal

pub returns : goal.returns
returns c = settling_adds_none
