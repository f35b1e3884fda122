use Rattle.interval_fills.proofs.Freed.{freed_free}
use Rattle.interval_fills.proofs.laws.freed_is_free.Goals as goal

pub returns : goal.returns
returns c = freed_free
