use Rattle.std.proofs.Common.{rules}
use Rattle.turn_cell.proofs.Moves.{draws}
use Rattle.turn_cell.proofs.seats.draw.Goals as goal

pub compare_exchange-found-requires : goal.compare_exchange-found-requires
compare_exchange-found-requires g c = (search rules, search rules, draws g.T.Growing.history g.T.Growing.fills g.T.Growing.goes_on _ _ _ _ _ _ (search rules) (search rules) (search rules))
