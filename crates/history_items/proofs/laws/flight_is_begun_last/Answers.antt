use Rattle.history_items.proofs.LastSaid.{flight_is_begun_last}
use Rattle.history_items.proofs.laws.flight_is_begun_last.Goals as goal

pub returns : goal.returns
returns c = flight_is_begun_last
