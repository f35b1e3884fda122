use Rattle.std.proofs.Common.{◌≡◌, ℕ, ◌+◌, ◌≤◌, List, length, refl, arith}
use Rattle.arch_types.specs.declared.row_fault.RowFault.{RowFault}
use Rattle.arch_types.specs.declared.row_fault.RowFault.TheVariants.{OutOfMemory}
use Rattle.archive_store.specs.UnreadRows.{IsSourceFault}
use Rattle.archive_store.proofs.Calls.{passed_on}
use Rattle.archive_store.specs.ReadOn.{read_none}
use Rattle.script_answers.proofs.HeldParts.{whole_selection}
use Rattle.script_answers.proofs.StatementSteps.{few_steps}
use Rattle.script_answers.proofs.Told.{told_history, told_ok}
use Rattle.ssql_select.specs.Selection.{HoldsSelected, rows_looked_at}
use Rattle.ssql_select.specs.SelectionText.{selection_text}
use Rattle.script_answers.proofs.statements.selection.Goals as goal

-- there was no memory for the partitions

pub returns-in_err-parts-clause-steps : goal.returns-in_err-parts-clause-steps
returns-in_err-parts-clause-steps g c tells = omega arith

pub returns-in_err-parts-clause-refused : goal.returns-in_err-parts-clause-refused
returns-in_err-parts-clause-refused g c =
    passed_on c.from_residual.result OutOfMemory (IsSourceFault g.D.Disk.device c.args.store.now c.args.store.now) c.from_residual.ensures.1 refl

pub returns-in_err-parts-clause-same : goal.returns-in_err-parts-clause-same
returns-in_err-parts-clause-same g c = read_none g.D.Disk.device c.args.store.now

-- the rows were asked for

pub returns-clause-text : goal.returns-clause-text
returns-clause-text g c tells =
    let old = c.args.store.now in
    let names = c.args.names.now in
    let query = c.args.query.now in
    let parts = c.in_ok-parts.parts in
    let front = c.front-front.result in
    whole_selection {E = RowFault} names query parts old.history front c.select.result c.front-front.ensures c.in_ok-parts.ensures.held
    (told_ok g.D.Disk.device old tells c.select.result (λ (text : List ℕ) history. HoldsSelected query parts (history front) → text ≡ selection_text names query (history front)) c.select.ensures.text)

pub returns-clause-steps : goal.returns-clause-steps
returns-clause-steps g c tells =
    let old = c.args.store.now in
    let query = c.args.query.now in
    let parts = c.in_ok-parts.parts in
    let front = c.front-front.result in
    few_steps old.history query parts front c.args.steps.now c.select.new.steps c.front-front.ensures c.in_ok-parts.ensures.pruned
    (told_history g.D.Disk.device old tells (λ history. c.select.new.steps ≤ c.args.steps.now + length (rows_looked_at query parts (history front))) c.select.ensures.steps)
