use Rattle.std.proofs.Common.{◌∙◌, inr, refl, sym, subst}
use Rattle.std.proofs.lemmas.Result.{err_from_is_err_and}
use Rattle.asks.specs.Refusals.{request_refusal}
use Rattle.archive_store.specs.UnreadRows.{IsLeftByRefusal}
use Rattle.archive_store.proofs.UnreadRows.{left_by}
use Rattle.live_archive.specs.Retrievals.{in_force}
use Rattle.live_archive.proofs.Retrieved.{not_failed}
use Rattle.live_archive.proofs.held.HeldStore.planned.Goals as goal

pub returns-in_err-found-clause-same : goal.returns-in_err-found-clause-same
returns-in_err-found-clause-same g c =
    let s = c.args.self.now.store in
    let p = err_from_is_err_and c.from_residual.result c.from_residual.ensures.1 in
    let asked = request_refusal (in_force s) c.args.request in
    rw p.1 (left_by g.D.Disk.device s s p.0 (λ failed. not_failed asked c.in_err-found.field-0.0 c.in_err-found.ensures.refused (sym p.2 ∙ failed)) refl)

pub returns-in_err-plan-clause-refused : goal.returns-in_err-plan-clause-refused
returns-in_err-plan-clause-refused g c =
    let p = err_from_is_err_and c.from_residual-in_err-plan.result c.from_residual-in_err-plan.ensures.1 in
    rw p.1 (inr (c.in_err-plan.field-0.0, c.in_err-plan.ensures.refused, p.2))

pub returns-in_err-plan-clause-same : goal.returns-in_err-plan-clause-same
returns-in_err-plan-clause-same g c =
    let p = err_from_is_err_and c.from_residual-in_err-plan.result c.from_residual-in_err-plan.ensures.1 in
    rw p.1 (subst (IsLeftByRefusal g.D.Disk.device c.args.self.now.store c.plan.new.self) (sym p.2) c.in_err-plan.ensures.same)

pub returns-clause-same : goal.returns-clause-same
returns-clause-same g c = c.in_ok-plan.ensures.same
