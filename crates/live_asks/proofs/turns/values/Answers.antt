use Rattle.std.proofs.Common.{◌∙◌, inl, inr, refl, sym, subst, arith}
use Rattle.std.proofs.lemmas.Result.{err_from_is_err_and}
use Rattle.retrieval.specs.declared.found_asks.FoundAsk.TheVariants as looked_up
use Rattle.refusals.specs.declared.refusal.Refusal.{Refusal}
use Rattle.live_asks.specs.LiveAsks.{IsUnanswered, disk_facts}
use Rattle.live_asks.proofs.Asking.{retrieval_answers, retrieval_noted, retrieval_refuses, retrieval_sees, retrieval_silent, unasked}
use Rattle.live_asks.proofs.Looking.{glance_answers}
use Rattle.live_asks.proofs.Sees.{sees_same}
use Rattle.live_asks.proofs.turns.values.Goals as goal

pub returns-in-Some-clause-sees : goal.returns-in-Some-clause-sees
returns-in-Some-clause-sees g c = sees_same c.args.pass.now

pub returns-in-Some-clause-asked : goal.returns-in-Some-clause-asked
returns-in-Some-clause-asked g c =
    inl (glance_answers c.args.live.now.cell.first g.D.Disk.device c.args.found.now c.in-Some.answer c.args.glance.now c.glanced.new.glance c.requires.glance c.glanced.ensures.later c.in-Some.ensures.answered, omega arith)

pub returns-in_err-request-clause-sees : goal.returns-in_err-request-clause-sees
returns-in_err-request-clause-sees g c = sees_same c.args.pass.now

pub returns-in_err-request-clause-asked : goal.returns-in_err-request-clause-asked
returns-in_err-request-clause-asked g c =
    let p = err_from_is_err_and c.from_residual.result c.from_residual.ensures.1 in
    rw p.1 (unasked g.D.Disk.device c.args.live.now.cell.first.store c.args.pass.now c.args.pass.now c.args.steps.now (looked_up.Values c.args.found.now) p.0 (sees_same c.args.pass.now) (subst (λ (e : Refusal). IsUnanswered (disk_facts g.D.Disk.device c.args.live.now.cell.first.store.opened c.args.live.now.cell.first.store.sealed) e) (sym p.2) tt))

pub returns-in_err-answer-clause-sees : goal.returns-in_err-answer-clause-sees
returns-in_err-answer-clause-sees g c =
    retrieval_sees g.D.Disk.device c.args.live.now.cell.first.store c.args.pass.now c.retrieve.new.pass c.args.found.now _ _ c.in_ok-request.request c.in_ok-request.ensures c.retrieve.result c.retrieve.ensures.turn

pub returns-in_err-answer-clause-asked : goal.returns-in_err-answer-clause-asked
returns-in_err-answer-clause-asked g c =
    let p = err_from_is_err_and c.from_residual-in_err-answer.result c.from_residual-in_err-answer.ensures.1 in
    rw (p.1, p.2)
    (retrieval_refuses g.D.Disk.device c.args.live.now.cell.first.store c.args.pass.now c.retrieve.new.pass c.args.found.now c.args.steps.now c.retrieve.new.steps c.in_ok-request.request c.in_ok-request.ensures
    c.in_err-answer.field-0.0 c.requires.found c.in_err-answer.ensures.turn)

pub returns-clause-sees : goal.returns-clause-sees
returns-clause-sees g c =
    retrieval_sees g.D.Disk.device c.args.live.now.cell.first.store c.args.pass.now c.retrieve.new.pass c.args.found.now _ _ c.in_ok-request.request c.in_ok-request.ensures c.retrieve.result c.retrieve.ensures.turn

pub returns-clause-asked : goal.returns-clause-asked
returns-clause-asked g c =
    inr (retrieval_answers g.D.Disk.device c.args.live.now.cell.first.store c.args.pass.now c.retrieve.new.pass c.args.found.now c.args.steps.now c.retrieve.new.steps c.in_ok-request.request c.in_ok-request.ensures
    c.in_ok-answer.answer c.in_ok-answer.ensures.turn)

pub returns-in_err-request-clause-noted : goal.returns-in_err-request-clause-noted
returns-in_err-request-clause-noted g c =
    let p = err_from_is_err_and c.from_residual.result c.from_residual.ensures.1 in
    rw p.1 (λ failed. absurd (cc (p.2, failed)))

pub returns-in_err-answer-clause-noted : goal.returns-in_err-answer-clause-noted
returns-in_err-answer-clause-noted g c =
    let p = err_from_is_err_and c.from_residual-in_err-answer.result c.from_residual-in_err-answer.ensures.1 in
    rw p.1 (λ failed. retrieval_noted g.D.Disk.device c.args.live.now.cell.first.store c.args.pass.now c.retrieve.new.pass c.args.found.now c.args.steps.now c.retrieve.new.steps c.in_ok-request.request c.in_ok-request.ensures
    c.in_err-answer.field-0.0 c.in_err-answer.ensures.turn (sym p.2 ∙ failed))

pub returns-in-Some-clause-silent : goal.returns-in-Some-clause-silent
returns-in-Some-clause-silent g c = refl

pub returns-in_err-request-clause-silent : goal.returns-in_err-request-clause-silent
returns-in_err-request-clause-silent g c =
    let p = err_from_is_err_and c.from_residual.result c.from_residual.ensures.1 in
    rw p.1 tt

pub returns-in_err-answer-clause-silent : goal.returns-in_err-answer-clause-silent
returns-in_err-answer-clause-silent g c =
    let p = err_from_is_err_and c.from_residual-in_err-answer.result c.from_residual-in_err-answer.ensures.1 in
    rw p.1 tt

pub returns-clause-silent : goal.returns-clause-silent
returns-clause-silent g c =
    retrieval_silent g.D.Disk.device c.args.live.now.cell.first.store c.args.pass.now c.retrieve.new.pass c.args.found.now c.args.steps.now c.retrieve.new.steps c.in_ok-request.request c.in_ok-request.ensures c.in_ok-answer.answer c.in_ok-answer.ensures.turn
