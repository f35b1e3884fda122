use Rattle.std.proofs.Common.{rules}
use Rattle.turn_cell.proofs.Moves.{passes}
use Rattle.turn_cell.proofs.cell.TurnCell.leave.Goals as goal

pub tell_front-requires : goal.tell_front-requires
tell_front-requires g c = record {
  sized = search rules;
  own = search rules;
  grown = (c.pass.inside.ticket, c.args.value, search rules, search rules, search rules, search rules, search rules);
}

pub store-requires : goal.store-requires
store-requires g c = (search rules, search rules, passes g.T.Growing.history g.T.Growing.fills g.T.Growing.goes_on _ _ _ _ _ c.args.value _ (search rules) (search rules) (search rules) (search rules) (search rules) (search rules))
