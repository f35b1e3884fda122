use Rattle.interval_fills.proofs.Freed.{all_free}
use Rattle.interval_fills.proofs.laws.none_is_in_flight.Goals as goal

pub returns : goal.returns
returns c = all_free
