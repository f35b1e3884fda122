use Rattle.yarch_table.proofs.Histories.{seen_between-placed}
use Rattle.yarch_table.proofs.laws.seen_is_range.Goals as goal

pub returns : goal.returns
returns c = seen_between-placed
