use Rattle.std.proofs.Common.{◌∙◌, length, ap, arith, sym, subst}
use Rattle.std.specs.List.{AllByRecursion}
use Rattle.history_items.specs.Databases.{database_in}
use Rattle.history_items.specs.Items.{rows_in}
use Rattle.arch_types.specs.declared.row_fault.RowFault.TheVariants as unread
use Rattle.archive_store.specs.UnreadRows.{IsReadFault}
use Rattle.archive_store.proofs.Calls.{passed_on}
use Rattle.archive_store.proofs.UnreadRows.{left_passed_on, memory_unread}
use Rattle.mdb_items.specs.Database.{Database}
use Rattle.param_segments.specs.Plans.{ArePartsOver, HasValuesOf}
use Rattle.part_answers.specs.PartCells.{answer_over_parts, answer_over_rows}
use Rattle.retrieval.proofs.FilledAnswers.{plan_filled}
use Rattle.retrieval.proofs.LateRows.{late_in_range}
use Rattle.part_answers.proofs.OverRows.{answer_of_history}
use Rattle.retrieval.proofs.answer.answer_request.Goals as goal

pub returns-in_err-plan-clause-refused : goal.returns-in_err-plan-clause-refused
returns-in_err-plan-clause-refused g c =
    passed_on c.from_residual.result c.in_err-plan.field-0.0 (IsReadFault g.D.Disk.device c.args.store.now c.plan.new.self) c.from_residual.ensures.1 c.in_err-plan.ensures.refused

pub returns-in_err-plan-clause-same : goal.returns-in_err-plan-clause-same
returns-in_err-plan-clause-same g c =
    left_passed_on g.D.Disk.device c.args.store.now c.plan.new.self c.from_residual.result c.in_err-plan.field-0.0 c.from_residual.ensures.1 c.in_err-plan.ensures.same

pub answer-requires : goal.answer-requires
answer-requires g c =
    record { values = subst (λ (db : Database). AllByRecursion (HasValuesOf db) c.in_ok-plan.plan.parts) (sym c.in_ok-plan.ensures.planned.mdb) c.in_ok-plan.ensures.values }

pub returns-in_err-answer-clause-refused : goal.returns-in_err-answer-clause-refused
returns-in_err-answer-clause-refused g c =
    memory_unread g.D.Disk.device c.args.store.now c.plan.new.self c.from_residual-in_err-answer.result c.from_residual-in_err-answer.ensures.1

pub returns-in_err-answer-clause-same : goal.returns-in_err-answer-clause-same
returns-in_err-answer-clause-same g c =
    left_passed_on g.D.Disk.device c.args.store.now c.plan.new.self c.from_residual-in_err-answer.result unread.OutOfMemory c.from_residual-in_err-answer.ensures.1 c.in_ok-plan.ensures.same

pub returns-in_err-answer-clause-steps : goal.returns-in_err-answer-clause-steps
returns-in_err-answer-clause-steps g c = λ tells.
    let request = c.args.found.now.request in
    let late = ap length (late_in_range g.D.Disk.device c.args.store.now request.from request.to tells c.in_ok-plan.plan c.in_ok-plan.ensures.planned) in
    omega (arith, c.answer.ensures.steps, late)

pub returns-clause-filled : goal.returns-clause-filled
returns-clause-filled g c = λ tells.
    let store = c.args.store.now in
    let found = c.args.found.now in
    let plan = c.in_ok-plan.plan in
    let planned = c.in_ok-plan.ensures.planned in
    let in_force = database_in store.head.mdb store.history in
    record {
      front = c.in_ok-answer.ensures.front ∙ planned.front;
      number = found.number;
      named = c.requires.found.number;
      cells = c.in_ok-answer.ensures.cells
          ∙ ap (λ (db : Database). answer_over_parts db found.number found.request plan.parts) planned.mdb
          ∙ plan_filled g.D.Disk.device store in_force found.number found.request plan c.is_kept.ensures.bases tells planned;
    }

pub returns-clause-answered : goal.returns-clause-answered
returns-clause-answered g c = λ transparent image.
    let store = c.args.store.now in
    let found = c.args.found.now in
    let request = found.request in
    let same = c.in_ok-plan.ensures.planned.mdb in
    let in_force = database_in store.head.mdb store.history in
    let is = c.in_ok-plan.ensures.over transparent image in
    let parts_over = subst (λ (db : Database). ArePartsOver db c.in_ok-plan.plan.parts is.rows) (sym same) is.over in
    c.in_ok-answer.ensures.over is.rows parts_over
    ∙ ap (λ (db : Database). answer_over_rows db found.number request is.rows) same
    ∙ answer_of_history in_force found.number request is.rows (rows_in store.history) is.in_range

pub returns-clause-steps : goal.returns-clause-steps
returns-clause-steps g c = λ tells.
    let request = c.args.found.now.request in
    let late = ap length (late_in_range g.D.Disk.device c.args.store.now request.from request.to tells c.in_ok-plan.plan c.in_ok-plan.ensures.planned) in
    omega (arith, c.answer.ensures.steps, late)

pub returns-clause-same : goal.returns-clause-same
returns-clause-same g c = c.in_ok-plan.ensures.same
