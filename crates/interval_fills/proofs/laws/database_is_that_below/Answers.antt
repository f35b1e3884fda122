use Rattle.interval_fills.proofs.Intervals.{database_below}
use Rattle.interval_fills.proofs.laws.database_is_that_below.Goals as goal

pub returns : goal.returns
returns c = database_below
