use Rattle.std.proofs.Common.{rules, refl, Some}
use Rattle.turn_cell.proofs.cell.TurnCell.enter.Goals as goal

pub slot_mut-requires : goal.slot_mut-requires
slot_mut-requires g c = let s = c.wait.ensures.served in (search rules, (Some s.0, rw s.4 refl))
