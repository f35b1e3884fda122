use Rattle.interval_walks.proofs.Counts.{one_late_less}
use Rattle.interval_walks.proofs.laws.fills_leave_one_less.Goals as goal

pub returns : goal.returns
returns c = one_late_less
