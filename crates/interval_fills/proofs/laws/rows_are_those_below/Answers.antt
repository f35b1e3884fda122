use Rattle.interval_fills.proofs.Intervals.{rows_below}
use Rattle.interval_fills.proofs.laws.rows_are_those_below.Goals as goal

pub returns : goal.returns
returns c = rows_below
