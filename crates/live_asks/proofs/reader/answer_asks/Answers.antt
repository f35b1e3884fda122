use Rattle.std.proofs.Common.{◌≡◌, ◌∙◌, ◌+◌, ◌<◌, ◌∷◌, length, drop, refl, ap, arith, subst, sym}
use Rattle.std.proofs.lemmas.List.{drop_all, drop_more}
use Rattle.std.proofs.lemmas.Result.{err_from_is_err_and}
use Rattle.refusals.specs.declared.refusal.Refusal.TheVariants.{OutOfMemory}
use Rattle.retrieval.specs.declared.found_asks.FoundAsk.{FoundAsk}
use Rattle.retrieval.specs.FoundAsks.{AreFound}
use Rattle.live_asks.specs.LiveAsks.{every_fourth, reader_view}
use Rattle.live_asks.proofs.Each.{ended_all, ended_at, lists_seen, none_so_far, not_kept, one_more, passed_by}
use Rattle.live_asks.proofs.Looking.{glances_stay, looks_same, looks_trans}
use Rattle.live_asks.proofs.Sees.{noted_since, sees_on, sees_same}
use Rattle.live_asks.proofs.reader.answer_asks.Goals as goal

pub loop-ask-init : goal.loop-ask-init
loop-ask-init g c = record {
  free = c.requires.free;
  sees = sees_same c.args.pass.now;
  silent = refl;
  looks = looks_same c.args.glance.now;
  found = c.requires.found;
  asked = none_so_far g.D.Disk.device c.args.live.now.cell.first.store c.args.glance.now (reader_view c.args.pass.now c.args.steps.now) c.args.asks.now c.args.before c.args.answers.now c.requires.none;
}

pub answer_ask-requires-clause-found : goal.answer_ask-requires-clause-found
answer_ask-requires-clause-found g c =
    let asks = c.args.asks.now in
    let i = c.loop-ask.ask-index in
    let ask = c.ask-item.result in
    let lt : i < length asks = omega (arith, c.loop-ask-test.true) in
    let step : drop i asks ≡ ask ∷ drop (i + 1) asks = drop_more asks i ask lt ∙ ap (λ (a : FoundAsk). a ∷ drop (i + 1) asks) (sym c.ask-item.is) in
    let first = c.args.live.now.cell.first.store in
    (subst (AreFound first.head first.history) step c.loop-ask.invariant.found).0

pub answer_ask-requires-clause-glance : goal.answer_ask-requires-clause-glance
answer_ask-requires-clause-glance g c = glances_stay c.args.live.now.cell.first c.args.glance.now c.loop-ask.glance c.requires.glance c.loop-ask.invariant.looks

pub loop-ask-preserved-then-skip-gt0 : goal.loop-ask-preserved-then-skip-gt0
loop-ask-preserved-then-skip-gt0 g c =
    let asks = c.args.asks.now in
    let i = c.loop-ask.ask-index in
    let ask = c.ask-item.result in
    let lt : i < length asks = omega (arith, c.loop-ask-test.true) in
    let step : drop i asks ≡ ask ∷ drop (i + 1) asks = drop_more asks i ask lt ∙ ap (λ (a : FoundAsk). a ∷ drop (i + 1) asks) (sym c.ask-item.is) in
    let first = c.args.live.now.cell.first.store in
    let inv = c.loop-ask.invariant in
    record {
      free = inv.free;
      sees = inv.sees;
      silent = inv.silent;
      looks = inv.looks;
      found = (subst (AreFound first.head first.history) step inv.found).1;
      asked = passed_by g.D.Disk.device first c.loop-ask.glance (reader_view c.args.pass.now c.args.steps.now) (reader_view c.loop-ask.pass c.loop-ask.steps) (every_fourth c.args.before asks) (drop i asks) (drop (i + 1) asks) ask step
          c.loop-ask.skip c.loop-ask.answers c.if-skip-gt0.true inv.asked;
    }

pub loop-ask-preserved : goal.loop-ask-preserved
loop-ask-preserved g c =
    let asks = c.args.asks.now in
    let i = c.loop-ask.ask-index in
    let ask = c.ask-item.result in
    let lt : i < length asks = omega (arith, c.loop-ask-test.true) in
    let step : drop i asks ≡ ask ∷ drop (i + 1) asks = drop_more asks i ask lt ∙ ap (λ (a : FoundAsk). a ∷ drop (i + 1) asks) (sym c.ask-item.is) in
    let first = c.args.live.now.cell.first.store in
    let inv = c.loop-ask.invariant in
    record {
      free = c.answer_ask.ensures.free;
      sees = sees_on c.args.pass.now c.loop-ask.pass c.answer_ask.new.pass inv.sees c.answer_ask.ensures.sees;
      silent = c.in_ok-answer.ensures.silent ∙ inv.silent;
      looks = looks_trans c.args.glance.now c.loop-ask.glance c.answer_ask.new.glance inv.looks c.answer_ask.ensures.later;
      found = (subst (AreFound first.head first.history) step inv.found).1;
      asked = one_more g.D.Disk.device first c.loop-ask.glance (reader_view c.args.pass.now c.args.steps.now) (reader_view c.loop-ask.pass c.loop-ask.steps) (every_fourth c.args.before asks) (drop i asks) (drop (i + 1) asks) ask step c.answer_ask.new.glance c.answer_ask.ensures.later
          (reader_view c.answer_ask.new.pass c.answer_ask.new.steps) c.loop-ask.skip c.loop-ask.answers c.push.new.self c.in_ok-answer.answer (omega (arith, c.if-skip-gt0.false))
          (lists_seen c.args.pass.now c.loop-ask.pass c.args.steps.now c.loop-ask.steps inv.sees) (lists_seen c.loop-ask.pass c.answer_ask.new.pass c.loop-ask.steps c.answer_ask.new.steps c.answer_ask.ensures.sees)
          c.in_ok-answer.ensures.asked c.in_ok-push.ensures.ok inv.asked;
    }

pub returns-in_err-answer-clause-sees : goal.returns-in_err-answer-clause-sees
returns-in_err-answer-clause-sees g c = sees_on c.args.pass.now c.loop-ask.pass c.answer_ask.new.pass c.loop-ask.invariant.sees c.answer_ask.ensures.sees

pub returns-in_err-answer-clause-later : goal.returns-in_err-answer-clause-later
returns-in_err-answer-clause-later g c = looks_trans c.args.glance.now c.loop-ask.glance c.answer_ask.new.glance c.loop-ask.invariant.looks c.answer_ask.ensures.later

pub returns-in_err-answer-clause-asked : goal.returns-in_err-answer-clause-asked
returns-in_err-answer-clause-asked g c =
    let asks = c.args.asks.now in
    let i = c.loop-ask.ask-index in
    let ask = c.ask-item.result in
    let lt : i < length asks = omega (arith, c.loop-ask-test.true) in
    let step : drop i asks ≡ ask ∷ drop (i + 1) asks = drop_more asks i ask lt ∙ ap (λ (a : FoundAsk). a ∷ drop (i + 1) asks) (sym c.ask-item.is) in
    let inv = c.loop-ask.invariant in
    let p = err_from_is_err_and c.from_residual.result c.from_residual.ensures.1 in
    rw (p.1, p.2)
    (ended_at g.D.Disk.device c.args.live.now.cell.first.store c.loop-ask.glance (reader_view c.args.pass.now c.args.steps.now) (reader_view c.loop-ask.pass c.loop-ask.steps) (every_fourth c.args.before asks) (drop i asks) (drop (i + 1) asks) ask step c.answer_ask.new.glance c.answer_ask.ensures.later
    (reader_view c.answer_ask.new.pass c.answer_ask.new.steps) c.loop-ask.skip c.loop-ask.answers c.in_err-answer.field-0.0 (omega (arith, c.if-skip-gt0.false))
    (lists_seen c.args.pass.now c.loop-ask.pass c.args.steps.now c.loop-ask.steps inv.sees) (lists_seen c.loop-ask.pass c.answer_ask.new.pass c.loop-ask.steps c.answer_ask.new.steps c.answer_ask.ensures.sees)
    c.in_err-answer.ensures.asked inv.asked)

pub returns-in_err-push-clause-sees : goal.returns-in_err-push-clause-sees
returns-in_err-push-clause-sees g c = sees_on c.args.pass.now c.loop-ask.pass c.answer_ask.new.pass c.loop-ask.invariant.sees c.answer_ask.ensures.sees

pub returns-in_err-push-clause-later : goal.returns-in_err-push-clause-later
returns-in_err-push-clause-later g c = looks_trans c.args.glance.now c.loop-ask.glance c.answer_ask.new.glance c.loop-ask.invariant.looks c.answer_ask.ensures.later

pub returns-in_err-push-clause-asked : goal.returns-in_err-push-clause-asked
returns-in_err-push-clause-asked g c =
    let asks = c.args.asks.now in
    let i = c.loop-ask.ask-index in
    let ask = c.ask-item.result in
    let lt : i < length asks = omega (arith, c.loop-ask-test.true) in
    let step : drop i asks ≡ ask ∷ drop (i + 1) asks = drop_more asks i ask lt ∙ ap (λ (a : FoundAsk). a ∷ drop (i + 1) asks) (sym c.ask-item.is) in
    let inv = c.loop-ask.invariant in
    let p = err_from_is_err_and c.from_residual-in_err-push.result c.from_residual-in_err-push.ensures.1 in
    rw (p.1, p.2, c.in_err-push.ensures.err)
    (ended_at g.D.Disk.device c.args.live.now.cell.first.store c.loop-ask.glance (reader_view c.args.pass.now c.args.steps.now) (reader_view c.loop-ask.pass c.loop-ask.steps) (every_fourth c.args.before asks) (drop i asks) (drop (i + 1) asks) ask step c.answer_ask.new.glance c.answer_ask.ensures.later
    (reader_view c.answer_ask.new.pass c.answer_ask.new.steps) c.loop-ask.skip c.loop-ask.answers OutOfMemory (omega (arith, c.if-skip-gt0.false))
    (lists_seen c.args.pass.now c.loop-ask.pass c.args.steps.now c.loop-ask.steps inv.sees) (lists_seen c.loop-ask.pass c.answer_ask.new.pass c.loop-ask.steps c.answer_ask.new.steps c.answer_ask.ensures.sees)
    (not_kept g.D.Disk.device c.args.live.now.cell.first.store c.answer_ask.new.glance (reader_view c.loop-ask.pass c.loop-ask.steps) (reader_view c.answer_ask.new.pass c.answer_ask.new.steps) ask c.in_ok-answer.answer
    (lists_seen c.loop-ask.pass c.answer_ask.new.pass c.loop-ask.steps c.answer_ask.new.steps c.answer_ask.ensures.sees) c.in_ok-answer.ensures.asked)
    inv.asked)

pub returns-clause-asked : goal.returns-clause-asked
returns-clause-asked g c =
    let asks = c.args.asks.now in
    let i = c.loop-ask.ask-index in
    ended_all g.D.Disk.device c.args.live.now.cell.first.store c.loop-ask.glance (reader_view c.args.pass.now c.args.steps.now) (reader_view c.loop-ask.pass c.loop-ask.steps) (every_fourth c.args.before asks) (drop i asks) c.loop-ask.skip c.loop-ask.answers
    (drop_all i asks (omega (arith, c.loop-ask-test.false))) c.loop-ask.invariant.asked

pub returns-in_err-answer-clause-noted : goal.returns-in_err-answer-clause-noted
returns-in_err-answer-clause-noted g c =
    let p = err_from_is_err_and c.from_residual.result c.from_residual.ensures.1 in
    rw p.1 (λ failed. noted_since c.args.pass.now c.loop-ask.pass c.answer_ask.new.pass c.loop-ask.invariant.sees (c.in_err-answer.ensures.noted (sym p.2 ∙ failed)))

pub returns-in_err-push-clause-noted : goal.returns-in_err-push-clause-noted
returns-in_err-push-clause-noted g c =
    let p = err_from_is_err_and c.from_residual-in_err-push.result c.from_residual-in_err-push.ensures.1 in
    rw p.1 (λ failed. absurd (cc (p.2, failed)))

pub returns-in_err-answer-clause-silent : goal.returns-in_err-answer-clause-silent
returns-in_err-answer-clause-silent g c =
    let p = err_from_is_err_and c.from_residual.result c.from_residual.ensures.1 in
    rw p.1 tt

pub returns-in_err-push-clause-silent : goal.returns-in_err-push-clause-silent
returns-in_err-push-clause-silent g c =
    let p = err_from_is_err_and c.from_residual-in_err-push.result c.from_residual-in_err-push.ensures.1 in
    rw p.1 tt

pub returns-clause-silent : goal.returns-clause-silent
returns-clause-silent g c = c.loop-ask.invariant.silent
