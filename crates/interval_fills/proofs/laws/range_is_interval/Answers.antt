use Rattle.interval_fills.proofs.Intervals.{range_is_interval}
use Rattle.interval_fills.proofs.laws.range_is_interval.Goals as goal

pub returns : goal.returns
returns c = range_is_interval
