use Rattle.archive_core.proofs.Runs.{adds}
use Rattle.archive_core.proofs.laws.steps_only_add.Goals as goal

pub returns : goal.returns
returns c = adds
