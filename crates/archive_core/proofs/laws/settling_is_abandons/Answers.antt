use Rattle.archive_core.proofs.Runs.{settling}
use Rattle.archive_core.proofs.laws.settling_is_abandons.Goals as goal

pub returns : goal.returns
returns c = settling
