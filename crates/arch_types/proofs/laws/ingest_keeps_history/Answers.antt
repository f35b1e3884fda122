use Rattle.arch_types.proofs.Histories.{keeps_history}
use Rattle.arch_types.proofs.laws.ingest_keeps_history.Goals as goal

pub returns : goal.returns
returns c = keeps_history
