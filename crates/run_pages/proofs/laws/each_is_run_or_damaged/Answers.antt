use Rattle.run_pages.proofs.EachFile.{run_or_damaged}
use Rattle.run_pages.proofs.laws.each_is_run_or_damaged.Goals as goal

pub returns : goal.returns
returns c = run_or_damaged
