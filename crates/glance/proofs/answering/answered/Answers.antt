use Rattle.std.proofs.Common.{◌≡◌, ◌∙◌, None, Some, sym, subst}
use Rattle.std.proofs.lemmas.Result.{err_from_is_err_and}
use Rattle.asks.specs.Names.{parameter_number}
use Rattle.asks.specs.Refusals.{request_refusal}
use Rattle.mdb_items.specs.Database.{Database}
use Rattle.glance.specs.Answers.{IsNotAsked}
use Rattle.glance.proofs.Listed.{now_answer, refused_asked, refused_late, values_within}
use Rattle.glance.proofs.answering.answered.Goals as goal

pub returns-in_err-number-clause-refused : goal.returns-in_err-number-clause-refused
returns-in_err-number-clause-refused g c =
    let p = err_from_is_err_and c.from_residual.result c.from_residual.ensures.1 in
    let refusal = c.in_err-number.field-0.0 in
    rw (p.1, p.2)
    (refused_asked g.X.Archived.stays c.args.listing.now c.contents-contents.result.now c.contents-contents.ensures c.args.request.now refusal
    (subst (λ (db : Database). IsNotAsked db c.args.request.now refusal) c.deref.ensures c.in_err-number.ensures.refused))

pub returns-in-Some-clause-refused : goal.returns-in-Some-clause-refused
returns-in-Some-clause-refused g c =
    let whole = subst (λ (db : Database). request_refusal db c.args.request.now ≡ None) c.deref.ensures c.in_ok-number.ensures.asked in
    let late = sym c.late_in.ensures ∙ c.in-Some.is in
    refused_late g.X.Archived.stays c.args.listing.now c.contents-contents.result.now c.contents-contents.ensures c.args.request.now c.met-span.result c.met-span.ensures c.in-Some.interval whole late

pub answer_in-requires : goal.answer_in-requires
answer_in-requires g c =
    let none = sym c.late_in.ensures ∙ c.in_default.is in
    values_within g.X.Archived.stays c.args.listing.now c.contents-contents.result.now c.contents-contents.ensures c.args.request.now c.met-span.result c.met-span.ensures none

pub returns-in-Ok-clause-answered : goal.returns-in-Ok-clause-answered
returns-in-Ok-clause-answered g c =
    let whole = subst (λ (db : Database). request_refusal db c.args.request.now ≡ None) c.deref.ensures c.in_ok-number.ensures.asked in
    let named = subst (λ (db : Database). parameter_number db c.args.request.now.parameter ≡ Some c.in_ok-number.number) c.deref.ensures c.in_ok-number.ensures.number in
    let none = sym c.late_in.ensures ∙ c.in_default.is in
    now_answer g.X.Archived.stays c.args.listing.now c.contents-contents.result.now c.contents-contents.ensures c.args.request.now c.met-span.result c.met-span.ensures
    c.in_ok-number.number c.in-Ok.answer whole named none c.in-Ok.ensures.front c.in-Ok.ensures.over
