use Rattle.std.proofs.Common.{rules}
use Rattle.turn_cell.proofs.Moves.{joins, settles, united}
use Rattle.turn_cell.proofs.seats.unite.Goals as goal

pub join_seat-requires : goal.join_seat-requires
join_seat-requires g c = (search rules, search rules, search rules, search rules, joins g.T.Growing.history g.T.Growing.fills g.T.Growing.goes_on _ _ _ _ _ (search rules) (search rules) (search rules))

pub load-requires : goal.load-requires
load-requires g c = (search rules, search rules, settles g.T.Growing.history g.T.Growing.fills g.T.Growing.goes_on _ _ _ _ _)

pub returns-clause-mine : goal.returns-clause-mine
returns-clause-mine g c = (united c.args.shared.now.table_id.slots c.load.result c.args.seat.now.me.0 c.args.other.me.0 _ _ _ c.join_seat.ensures.2 c.load.ensures.2).0

pub returns-clause-others : goal.returns-clause-others
returns-clause-others g c = (united c.args.shared.now.table_id.slots c.load.result c.args.seat.now.me.0 c.args.other.me.0 _ _ _ c.join_seat.ensures.2 c.load.ensures.2).1
