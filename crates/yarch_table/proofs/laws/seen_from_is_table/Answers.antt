use Rattle.yarch_table.proofs.Histories.{seen_at-from}
use Rattle.yarch_table.proofs.laws.seen_from_is_table.Goals as goal

pub returns : goal.returns
returns c = seen_at-from
