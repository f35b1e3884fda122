use Rattle.std.proofs.Common.{rules}
use Rattle.turn_cell.proofs.Moves.{reads}
use Rattle.turn_cell.proofs.seats.read_front.Goals as goal

pub load-requires : goal.load-requires
load-requires g c = (search rules, search rules, reads g.T.Growing.history g.T.Growing.fills g.T.Growing.goes_on _ _ _ _ _ (search rules) (search rules))
