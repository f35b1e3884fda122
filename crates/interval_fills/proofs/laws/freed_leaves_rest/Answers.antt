use Rattle.interval_fills.proofs.Freed.{freed_rest}
use Rattle.interval_fills.proofs.laws.freed_leaves_rest.Goals as goal

pub returns : goal.returns
returns c = freed_rest
