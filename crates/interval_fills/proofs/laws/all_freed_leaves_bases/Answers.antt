use Rattle.interval_fills.proofs.Freed.{all_freed_bases}
use Rattle.interval_fills.proofs.laws.all_freed_leaves_bases.Goals as goal

pub returns : goal.returns
returns c = all_freed_bases
