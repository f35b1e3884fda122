use Rattle.std.proofs.Common.{rules, subst, ap, ◌∙◌, ◌≡◌}
use Rattle.turn_cell.proofs.Moves.{looks, looked_hit, looked_miss}
use Rattle.turn_cell.specs.Turn.{Served}
use Rattle.turn_cell.specs.declared.view.Stage.TheVariants.{Waits}
use Rattle.turn_cell.proofs.seats.wait.Goals as goal

pub load-serving-requires : goal.load-serving-requires
load-serving-requires g c = (search rules, search rules, looks g.T.Growing.history g.T.Growing.fills g.T.Growing.goes_on _ _ _ c.args.ticket _ _ (search rules) (search rules) (search rules))

pub returns-then-serving-ticket-clause-served : goal.returns-then-serving-ticket-clause-served
returns-then-serving-ticket-clause-served g c =
    let still = c.loop.invariant.2 in
    let waits : c.loop.seat.me.0.stage ≡ Waits c.args.ticket = ap (λ m. m.0.stage) still ∙ c.requires.drawn.0 in
    let s = looked_hit g.T.Growing.history g.T.Growing.fills g.T.Growing.goes_on c.args.shared.now.table_id.slots _ _ _ _ c.load-serving.ensures.2 waits c.if-serving-ticket.true in
    subst (λ m. Served g.T.Growing.history g.T.Growing.fills g.T.Growing.goes_on m c.load-serving.new.seat.me c.args.ticket) still s

pub loop-preserved : goal.loop-preserved
loop-preserved g c =
    let still = c.loop.invariant.2 in
    let waits : c.loop.seat.me.0.stage ≡ Waits c.args.ticket = ap (λ m. m.0.stage) still ∙ c.requires.drawn.0 in
    (search rules, search rules, looked_miss g.T.Growing.history g.T.Growing.fills g.T.Growing.goes_on c.args.shared.now.table_id.slots _ _ _ _ c.load-serving.ensures.2 waits c.if-serving-ticket.false ∙ still)
