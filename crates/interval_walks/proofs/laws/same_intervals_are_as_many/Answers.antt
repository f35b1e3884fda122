use Rattle.interval_walks.proofs.Counts.{as_many}
use Rattle.interval_walks.proofs.laws.same_intervals_are_as_many.Goals as goal

pub returns : goal.returns
returns c = as_many
