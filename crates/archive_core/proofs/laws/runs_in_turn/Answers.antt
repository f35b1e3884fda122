use Rattle.archive_core.proofs.Runs.{in_turn}
use Rattle.archive_core.proofs.laws.runs_in_turn.Goals as goal

pub returns : goal.returns
returns c = in_turn
