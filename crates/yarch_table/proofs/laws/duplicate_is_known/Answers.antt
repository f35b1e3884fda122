use Rattle.yarch_table.proofs.Histories.{duplicate-placed}
use Rattle.yarch_table.proofs.laws.duplicate_is_known.Goals as goal

pub returns : goal.returns
returns c = duplicate-placed
