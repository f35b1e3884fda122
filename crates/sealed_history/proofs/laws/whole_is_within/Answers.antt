use Rattle.sealed_history.proofs.Whole.{whole_is_within}
use Rattle.sealed_history.proofs.laws.whole_is_within.Goals as goal

pub returns : goal.returns
returns c = whole_is_within
