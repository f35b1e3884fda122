use Rattle.store_fills.proofs.RightFills.{right_fill_stays}
use Rattle.store_fills.proofs.laws.right_fill_stays.Goals as goal

pub returns : goal.returns
returns c = right_fill_stays
