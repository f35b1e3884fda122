use Rattle.std.proofs.Common.{refl}
use Rattle.std.specs.List.{AllByRecursion}
use Rattle.archive_history.proofs.Steps.{if_ok}
use Rattle.history_items.specs.Databases.{database_in}
use Rattle.param_segments.specs.declared.plan.Plan.{Plan}
use Rattle.param_segments.specs.Plans.{HasValuesOf}
use Rattle.archive_store.specs.Plans.{IsPlan}
use Rattle.archive_store.proofs.Planning.{plan_values}
use Rattle.archive_store.proofs.UnreadRows.{left_by_read, memory_unread}
use Rattle.archive_store.proofs.store.Store.plan.Goals as goal

pub returns-in_err-mdb-clause-refused : goal.returns-in_err-mdb-clause-refused
returns-in_err-mdb-clause-refused g c = memory_unread g.D.Disk.device c.args.self.now c.args.self.now c.from_residual.result c.from_residual.ensures.1

pub returns-in_err-mdb-clause-same : goal.returns-in_err-mdb-clause-same
returns-in_err-mdb-clause-same g c =
    let s = c.args.self.now in
    let r = c.from_residual.result in
    left_by_read g.D.Disk.device s s r (memory_unread g.D.Disk.device s s r c.from_residual.ensures.1) refl

pub returns-clause-values : goal.returns-clause-values
returns-clause-values g c =
    let device = g.D.Disk.device in
    let s = c.args.self.now in
    let request = c.args.found.now.request in
    if_ok c.planned.result (IsPlan device s request.from request.to) (λ (plan : Plan). AllByRecursion (HasValuesOf (database_in s.head.mdb s.history)) plan.parts)
    (λ plan is. plan_values device s plan.parts is.each) c.planned.ensures.planned

pub returns-clause-over : goal.returns-clause-over
returns-clause-over g c = c.planned.ensures.over

pub returns-clause-steps : goal.returns-clause-steps
returns-clause-steps g c = c.planned.ensures.steps

pub returns-clause-refused : goal.returns-clause-refused
returns-clause-refused g c = c.planned.ensures.refused

pub returns-clause-same : goal.returns-clause-same
returns-clause-same g c = c.planned.ensures.same
