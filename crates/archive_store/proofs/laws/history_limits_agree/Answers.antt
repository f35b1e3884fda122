use Rattle.archive_store.proofs.Limits.{limits_agree}
use Rattle.archive_store.proofs.laws.history_limits_agree.Goals as goal

pub returns : goal.returns
returns c = limits_agree
