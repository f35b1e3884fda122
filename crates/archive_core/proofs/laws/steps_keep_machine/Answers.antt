use Rattle.archive_core.proofs.Runs.{keeps}
use Rattle.archive_core.proofs.laws.steps_keep_machine.Goals as goal

pub returns : goal.returns
returns c = keeps
