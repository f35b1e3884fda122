use Rattle.sealed_images.proofs.Whole.{none_is_nowhere_damaged}
use Rattle.sealed_images.proofs.laws.none_is_nowhere_damaged.Goals as goal

pub returns : goal.returns
returns c = none_is_nowhere_damaged
