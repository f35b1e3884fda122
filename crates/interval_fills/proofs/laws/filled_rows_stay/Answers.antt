use Rattle.interval_fills.proofs.Growing.{filled_stay}
use Rattle.interval_fills.proofs.laws.filled_rows_stay.Goals as goal

pub returns : goal.returns
returns c = filled_stay
