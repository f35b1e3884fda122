use Rattle.run_pages.proofs.WholePages.{whole_run}
use Rattle.run_pages.proofs.laws.whole_pages_are_runs.Goals as goal

pub returns : goal.returns
returns c = whole_run
