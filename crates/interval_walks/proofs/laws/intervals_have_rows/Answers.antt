use Rattle.interval_walks.proofs.Counts.{interval_there, intervals_apart}
use Rattle.interval_walks.proofs.laws.intervals_have_rows.Goals as goal

pub returns : goal.returns
returns c = record { there = interval_there; apart = intervals_apart }
