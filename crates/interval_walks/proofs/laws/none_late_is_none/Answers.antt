use Rattle.interval_walks.proofs.Counts.{none_late}
use Rattle.interval_walks.proofs.laws.none_late_is_none.Goals as goal

pub returns : goal.returns
returns c = none_late
