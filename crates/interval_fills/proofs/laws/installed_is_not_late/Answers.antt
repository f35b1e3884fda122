use Rattle.interval_fills.proofs.Freed.{installed}
use Rattle.interval_fills.proofs.laws.installed_is_not_late.Goals as goal

pub returns : goal.returns
returns c = installed
