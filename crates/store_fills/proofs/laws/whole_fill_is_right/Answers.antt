use Rattle.store_fills.proofs.RightFills.{whole_fill_is_right}
use Rattle.store_fills.proofs.laws.whole_fill_is_right.Goals as goal

pub returns : goal.returns
returns c = whole_fill_is_right
