use Rattle.std.proofs.Common.{refl}
use Rattle.turn_cell.proofs.Moves.{opens}
use Rattle.turn_cell.proofs.cell.TurnCell.new.Goals as goal

pub new-requires : goal.new-requires
new-requires g c = rw (c.of-key.ensures) (rw (c.in_default.ensures.items, c.new-slots.ensures.items) (opens g.T.Growing.history g.T.Growing.fills g.T.Growing.goes_on _ c.args.value _ c.len-front.ensures refl c.requires.start))
