use Rattle.yarch_table.proofs.Histories.{inserted-from}
use Rattle.yarch_table.proofs.laws.insert_from_ingests.Goals as goal

pub returns : goal.returns
returns c = inserted-from
