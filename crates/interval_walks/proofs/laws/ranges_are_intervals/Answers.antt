use Rattle.interval_walks.proofs.Turns.{ranges}
use Rattle.interval_walks.proofs.laws.ranges_are_intervals.Goals as goal

pub returns : goal.returns
returns c = ranges
