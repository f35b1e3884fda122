use Rattle.std.proofs.Common.{rules, subst}
use Rattle.turn_cell.specs.Turn.{FrontTold}
use Rattle.turn_cell.proofs.Moves.{finds, front_hit, front_miss, writes}
use Rattle.turn_cell.proofs.seats.tell_front.Goals as goal

pub load-requires : goal.load-requires
load-requires g c =
    let grown = c.requires.grown in (
      search rules,
      search rules,
      finds g.T.Growing.history g.T.Growing.fills g.T.Growing.goes_on _ _ _ grown.0 _ grown.1 _ grown.2 grown.3 grown.4 grown.5 c.requires.own.1,
    )

pub returns-then-load-front-clause-told : goal.returns-then-load-front-clause-told
returns-then-load-front-clause-told g c = front_hit g.T.Growing.history g.T.Growing.fills c.args.shared.now.table_id.slots _ c.args.front _ _ c.load.ensures.2 c.requires.grown c.if-load-front.true

pub store-requires : goal.store-requires
store-requires g c =
    let grown = c.requires.grown in
    let still = front_miss g.T.Growing.history g.T.Growing.fills c.args.shared.now.table_id.slots _ c.args.front _ _ c.load.ensures.2 grown c.if-load-front.false in (
      search rules,
      search rules,
      rw still (writes g.T.Growing.history g.T.Growing.fills g.T.Growing.goes_on _ _ _ grown.0 _ _ grown.1 _ grown.2 grown.3 grown.4 grown.5 grown.6 c.requires.own.1),
    )

pub returns-clause-told : goal.returns-clause-told
returns-clause-told g c =
    let still = front_miss g.T.Growing.history g.T.Growing.fills c.args.shared.now.table_id.slots _ c.args.front _ _ c.load.ensures.2 c.requires.grown c.if-load-front.false in
    subst (λ m. FrontTold g.T.Growing.history g.T.Growing.fills m c.store.new.seat.me) still c.store.ensures.2
