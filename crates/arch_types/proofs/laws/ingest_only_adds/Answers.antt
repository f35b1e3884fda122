use Rattle.arch_types.proofs.Histories.{only_adds}
use Rattle.arch_types.proofs.laws.ingest_only_adds.Goals as goal

pub returns : goal.returns
returns c = only_adds
