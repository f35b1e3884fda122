use Rattle.yarch_table.proofs.Histories.{inserted-placed}
use Rattle.yarch_table.proofs.laws.insert_ingests.Goals as goal

pub returns : goal.returns
returns c = inserted-placed
