use Rattle.arch_types.proofs.Histories.{each_key}
use Rattle.arch_types.proofs.laws.ingest_keeps_each_key.Goals as goal

pub returns : goal.returns
returns c = each_key
