use Rattle.std.proofs.Common.{◌∙◌, ◌++◌, List, ap, sym, refl, arith}
use Rattle.std.proofs.lemmas.List.{nil_from_length}
use Rattle.std.proofs.lemmas.Result.{err_from_is_err_and}
use Rattle.arch_types.specs.declared.row.Row.{Row}
use Rattle.refusals.specs.Refusal.{refusal_of_rows}
use Rattle.archive_store.specs.Replays.{rows_below}
use Rattle.live_archive.proofs.Unread.{unread_is, unread_on}
use Rattle.replay_merge.specs.Cursor.{rest_of}
use Rattle.replay_merge.proofs.Opening.{end_no_rest}
use Rattle.live_asks.proofs.Sees.{as_found, found_silent, noted_since, sees_on, sees_same, sees_turn, still_within, unread, unread_noted}
use Rattle.live_asks.proofs.Taken.{all_taken, taken_more}
use Rattle.live_asks.proofs.turns.rows_left.Goals as goal

pub steps-init : goal.steps-init
steps-init g c = record {
  free = c.requires.free;
  sees = sees_same c.args.pass.now;
  within = c.requires.front;
  at_front = refl;
  silent = refl;
  rows = λ _. ap (λ (l : List Row). l ++ rest_of c.args.cursor (rows_below c.args.pass.now.history.seen)) c.new-rows.ensures.items;
}

pub replay_next-requires-clause-front : goal.replay_next-requires-clause-front
replay_next-requires-clause-front g c =
    let here = c.steps.invariant in
    let front = here.at_front in
    let within = here.within in
    omega (arith, front, within)

pub returns-then-len-eq0-clause-sees : goal.returns-then-len-eq0-clause-sees
returns-then-len-eq0-clause-sees g c =
    let turn = c.in_ok-piece.ensures.turn in
    sees_on c.args.pass.now c.steps.pass c.replay_next.new.pass c.steps.invariant.sees
    (sees_turn g.D.Disk.device c.args.live.now.cell.first.store turn.before turn.after c.steps.pass c.replay_next.new.pass turn.turned (as_found g.D.Disk.device c.args.live.now.cell.first.store turn.before turn.after c.steps.pass c.replay_next.new.pass turn.turned turn.said.0))

pub returns-then-len-eq0-clause-rows : goal.returns-then-len-eq0-clause-rows
returns-then-len-eq0-clause-rows g c told =
    let here = c.steps.invariant in
    let turn = c.in_ok-piece.ensures.turn in
    let sees = sees_turn g.D.Disk.device c.args.live.now.cell.first.store turn.before turn.after c.steps.pass c.replay_next.new.pass turn.turned (as_found g.D.Disk.device c.args.live.now.cell.first.store turn.before turn.after c.steps.pass c.replay_next.new.pass turn.turned turn.said.0) in
    let none = nil_from_length c.in_ok-piece.piece (sym c.len.ensures ∙ c.if-len-eq0.true) in
    let end = end_no_rest c.replay_next.new.cursor (rows_below c.steps.pass.history.seen) (c.in_ok-piece.ensures.end.none_is_end none (omega arith)) in
    rw c.from_vec.ensures
    (all_taken c.args.cursor c.steps.cursor c.replay_next.new.cursor c.steps.rows.items c.in_ok-piece.piece c.steps.pass.history.seen c.replay_next.new.pass.history.seen
    here.within sees.begins none end (c.in_ok-piece.ensures.rows told) (here.rows told))

pub returns-in_err-piece-clause-sees : goal.returns-in_err-piece-clause-sees
returns-in_err-piece-clause-sees g c =
    let turn = c.in_err-piece.ensures.turn in
    sees_on c.args.pass.now c.steps.pass c.replay_next.new.pass c.steps.invariant.sees
    (sees_turn g.D.Disk.device c.args.live.now.cell.first.store turn.before turn.after c.steps.pass c.replay_next.new.pass turn.turned
    (unread g.D.Disk.device c.args.live.now.cell.first.store turn.before turn.after c.steps.pass c.replay_next.new.pass turn.turned (refusal_of_rows c.in_err-piece.field-0.0) (c.in_err-piece.field-0.0, turn.said.1, refl) turn.said.0))

pub returns-in_err-piece-clause-refused : goal.returns-in_err-piece-clause-refused
returns-in_err-piece-clause-refused g c =
    let turn = c.in_err-piece.ensures.turn in
    let p = err_from_is_err_and c.from_residual.result c.from_residual.ensures.1 in
    let refusal = refusal_of_rows c.in_err-piece.field-0.0 in
    rw (p.1, p.2) (unread_on g.D.Disk.device c.args.live.now.cell.first.store turn.before turn.turned.found.appends.sealed refusal
    (unread_is g.D.Disk.device turn.before turn.after refusal (c.in_err-piece.field-0.0, turn.said.1, refl)))

pub returns-in_err-append-clause-sees : goal.returns-in_err-append-clause-sees
returns-in_err-append-clause-sees g c =
    let turn = c.in_ok-piece.ensures.turn in
    sees_on c.args.pass.now c.steps.pass c.replay_next.new.pass c.steps.invariant.sees
    (sees_turn g.D.Disk.device c.args.live.now.cell.first.store turn.before turn.after c.steps.pass c.replay_next.new.pass turn.turned (as_found g.D.Disk.device c.args.live.now.cell.first.store turn.before turn.after c.steps.pass c.replay_next.new.pass turn.turned turn.said.0))

pub steps-preserved : goal.steps-preserved
steps-preserved g c =
    let here = c.steps.invariant in
    let turn = c.in_ok-piece.ensures.turn in
    let sees = sees_turn g.D.Disk.device c.args.live.now.cell.first.store turn.before turn.after c.steps.pass c.replay_next.new.pass turn.turned (as_found g.D.Disk.device c.args.live.now.cell.first.store turn.before turn.after c.steps.pass c.replay_next.new.pass turn.turned turn.said.0) in
    record {
      free = c.in_ok-piece.ensures.free;
      sees = sees_on c.args.pass.now c.steps.pass c.replay_next.new.pass here.sees sees;
      within = still_within c.args.cursor.front c.steps.pass c.replay_next.new.pass sees here.within;
      at_front = c.replay_next.ensures.asked.at_front ∙ here.at_front;
      silent = found_silent g.D.Disk.device c.args.live.now.cell.first.store turn.before turn.after c.steps.pass c.replay_next.new.pass turn.turned turn.said.0 ∙ here.silent;
      rows = λ told. rw (c.in_ok-append.ensures.items, c.into_vec-more.ensures)
          (taken_more c.args.cursor c.steps.cursor c.replay_next.new.cursor c.steps.rows.items c.in_ok-piece.piece c.steps.pass.history.seen c.replay_next.new.pass.history.seen
          here.within (c.replay_next.ensures.asked.at_front ∙ here.at_front) sees.begins (c.in_ok-piece.ensures.rows told) (here.rows told));
    }

pub returns-in_err-piece-clause-noted : goal.returns-in_err-piece-clause-noted
returns-in_err-piece-clause-noted g c =
    let device = g.D.Disk.device in
    let turn = c.in_err-piece.ensures.turn in
    let refusal = refusal_of_rows c.in_err-piece.field-0.0 in
    let p = err_from_is_err_and c.from_residual.result c.from_residual.ensures.1 in
    rw p.1 (λ failed. noted_since c.args.pass.now c.steps.pass c.replay_next.new.pass c.steps.invariant.sees
    (unread_noted device c.args.live.now.cell.first.store turn.before turn.after c.steps.pass c.replay_next.new.pass turn.turned refusal (c.in_err-piece.field-0.0, turn.said.1, refl) turn.said.0 (sym p.2 ∙ failed)))

pub returns-in_err-append-clause-noted : goal.returns-in_err-append-clause-noted
returns-in_err-append-clause-noted g c =
    let p = err_from_is_err_and c.from_residual-in_err-append.result c.from_residual-in_err-append.ensures.1 in
    rw p.1 (λ failed. absurd (cc (p.2, failed)))

pub returns-then-len-eq0-clause-silent : goal.returns-then-len-eq0-clause-silent
returns-then-len-eq0-clause-silent g c =
    let turn = c.in_ok-piece.ensures.turn in
    found_silent g.D.Disk.device c.args.live.now.cell.first.store turn.before turn.after c.steps.pass c.replay_next.new.pass turn.turned turn.said.0 ∙ c.steps.invariant.silent

pub returns-in_err-piece-clause-silent : goal.returns-in_err-piece-clause-silent
returns-in_err-piece-clause-silent g c =
    let p = err_from_is_err_and c.from_residual.result c.from_residual.ensures.1 in
    rw p.1 tt

pub returns-in_err-append-clause-silent : goal.returns-in_err-append-clause-silent
returns-in_err-append-clause-silent g c =
    let p = err_from_is_err_and c.from_residual-in_err-append.result c.from_residual-in_err-append.ensures.1 in
    rw p.1 tt
