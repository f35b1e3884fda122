use Rattle.archive_core.proofs.Runs.{runs}
use Rattle.archive_core.proofs.laws.runs_keep_invariant.Goals as goal

pub returns : goal.returns
returns c = runs
