use Rattle.yarch_table.proofs.Histories.{other-from}
use Rattle.yarch_table.proofs.laws.ingest_from_keeps_others.Goals as goal

pub returns : goal.returns
returns c = other-from
