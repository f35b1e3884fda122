use Rattle.sealed_sums.proofs.OrderBlind.{placed_sums}
use Rattle.sealed_sums.proofs.laws.placed_sums_are_sums.Goals as goal

pub returns : goal.returns
returns c = placed_sums
