use Rattle.yarch_table.proofs.Histories.{inserted-other}
use Rattle.yarch_table.proofs.laws.ingest_keeps_others.Goals as goal

pub returns : goal.returns
returns c = inserted-other
