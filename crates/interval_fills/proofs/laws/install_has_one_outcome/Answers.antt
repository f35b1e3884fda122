use Rattle.interval_fills.proofs.Steps.{one_outcome}
use Rattle.interval_fills.proofs.laws.install_has_one_outcome.Goals as goal

pub returns : goal.returns
returns c = one_outcome
