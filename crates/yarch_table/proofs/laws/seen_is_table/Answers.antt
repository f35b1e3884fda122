use Rattle.yarch_table.proofs.Histories.{seen_at-placed}
use Rattle.yarch_table.proofs.laws.seen_is_table.Goals as goal

pub returns : goal.returns
returns c = seen_at-placed
