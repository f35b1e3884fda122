use Rattle.run_pages.proofs.DamageOnce.{run_is_whole}
use Rattle.run_pages.proofs.laws.runs_are_whole.Goals as goal

pub returns : goal.returns
returns c = run_is_whole
