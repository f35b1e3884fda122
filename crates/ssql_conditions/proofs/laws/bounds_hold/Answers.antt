use Rattle.ssql_conditions.proofs.InBounds.{in_bounds}
use Rattle.ssql_conditions.proofs.laws.bounds_hold.Goals as goal

pub returns : goal.returns
returns c = in_bounds
