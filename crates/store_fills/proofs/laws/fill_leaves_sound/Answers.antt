use Rattle.store_fills.proofs.RightFills.{right_fill_leaves}
use Rattle.store_fills.proofs.laws.fill_leaves_sound.Goals as goal

pub returns : goal.returns
returns c = right_fill_leaves
