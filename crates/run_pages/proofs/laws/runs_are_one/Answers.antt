use Rattle.run_pages.proofs.RunOnce.{run_once}
use Rattle.run_pages.proofs.laws.runs_are_one.Goals as goal

pub returns : goal.returns
returns c = run_once
