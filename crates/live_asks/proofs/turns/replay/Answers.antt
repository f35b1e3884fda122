use Rattle.std.proofs.Common.{◌∙◌, inl, sym}
use Rattle.std.proofs.lemmas.Result.{err_from_is_err_and}
use Rattle.live_asks.proofs.Asking.{front_is_seen, replay_answers}
use Rattle.live_asks.proofs.Sees.{as_found, found_silent, noted_since, sees_on, sees_turn}
use Rattle.live_asks.proofs.turns.replay.Goals as goal

pub returns-in_err-cursor-clause-sees : goal.returns-in_err-cursor-clause-sees
returns-in_err-cursor-clause-sees g c =
    let turn = c.replay_open.ensures.turn in
    sees_turn g.D.Disk.device c.args.live.now.cell.first.store turn.before turn.after c.args.pass.now c.replay_open.new.pass turn.turned (as_found g.D.Disk.device c.args.live.now.cell.first.store turn.before turn.after c.args.pass.now c.replay_open.new.pass turn.turned (inl turn.said.0))

pub rows_left-requires-clause-front : goal.rows_left-requires-clause-front
rows_left-requires-clause-front g c =
    front_is_seen g.D.Disk.device c.args.live.now.cell.first.store c.args.pass.now c.replay_open.new.pass c.args.found.now c.in_ok-cursor.cursor c.in_ok-cursor.ensures.turn

pub returns-in_err-rows-clause-sees : goal.returns-in_err-rows-clause-sees
returns-in_err-rows-clause-sees g c =
    let turn = c.replay_open.ensures.turn in
    sees_on c.args.pass.now c.replay_open.new.pass c.rows_left.new.pass
    (sees_turn g.D.Disk.device c.args.live.now.cell.first.store turn.before turn.after c.args.pass.now c.replay_open.new.pass turn.turned (as_found g.D.Disk.device c.args.live.now.cell.first.store turn.before turn.after c.args.pass.now c.replay_open.new.pass turn.turned (inl turn.said.0))) c.rows_left.ensures.sees

pub returns-clause-sees : goal.returns-clause-sees
returns-clause-sees g c =
    let turn = c.replay_open.ensures.turn in
    sees_on c.args.pass.now c.replay_open.new.pass c.rows_left.new.pass
    (sees_turn g.D.Disk.device c.args.live.now.cell.first.store turn.before turn.after c.args.pass.now c.replay_open.new.pass turn.turned (as_found g.D.Disk.device c.args.live.now.cell.first.store turn.before turn.after c.args.pass.now c.replay_open.new.pass turn.turned (inl turn.said.0))) c.rows_left.ensures.sees

pub returns-clause-answered : goal.returns-clause-answered
returns-clause-answered g c =
    rw c.front-front.ensures
    (replay_answers g.D.Disk.device c.args.live.now.cell.first.store c.args.pass.now c.replay_open.new.pass c.args.found.now c.in_ok-cursor.cursor c.in_ok-rows.rows c.rows_left.new.pass
    c.in_ok-cursor.ensures.turn c.rows_left.ensures.sees c.in_ok-rows.ensures.rows)

pub returns-in_err-cursor-clause-noted : goal.returns-in_err-cursor-clause-noted
returns-in_err-cursor-clause-noted g c =
    let p = err_from_is_err_and c.from_residual.result c.from_residual.ensures.1 in
    rw p.1 (λ failed. absurd (cc (p.2, failed)))

pub returns-in_err-rows-clause-noted : goal.returns-in_err-rows-clause-noted
returns-in_err-rows-clause-noted g c =
    let turn = c.replay_open.ensures.turn in
    let p = err_from_is_err_and c.from_residual-in_err-rows.result c.from_residual-in_err-rows.ensures.1 in
    rw p.1 (λ failed. noted_since c.args.pass.now c.replay_open.new.pass c.rows_left.new.pass
    (sees_turn g.D.Disk.device c.args.live.now.cell.first.store turn.before turn.after c.args.pass.now c.replay_open.new.pass turn.turned (as_found g.D.Disk.device c.args.live.now.cell.first.store turn.before turn.after c.args.pass.now c.replay_open.new.pass turn.turned (inl turn.said.0)))
    (c.in_err-rows.ensures.noted (sym p.2 ∙ failed)))

pub returns-in_err-cursor-clause-silent : goal.returns-in_err-cursor-clause-silent
returns-in_err-cursor-clause-silent g c =
    let p = err_from_is_err_and c.from_residual.result c.from_residual.ensures.1 in
    rw p.1 tt

pub returns-in_err-rows-clause-silent : goal.returns-in_err-rows-clause-silent
returns-in_err-rows-clause-silent g c =
    let p = err_from_is_err_and c.from_residual-in_err-rows.result c.from_residual-in_err-rows.ensures.1 in
    rw p.1 tt

pub returns-clause-silent : goal.returns-clause-silent
returns-clause-silent g c =
    let turn = c.replay_open.ensures.turn in
    c.in_ok-rows.ensures.silent ∙ found_silent g.D.Disk.device c.args.live.now.cell.first.store turn.before turn.after c.args.pass.now c.replay_open.new.pass turn.turned (inl turn.said.0)
