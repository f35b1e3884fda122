use Rattle.std.proofs.Common.{◌++◌, ◌∙◌, List, ℕ, ap}
use Rattle.archive_store.specs.Pages.{TellsRows}
use Rattle.archive_store.specs.StoreView.{archive_of}
use Rattle.history_items.specs.Items.{rows_in}
use Rattle.line_buffer.proofs.PrintedTexts.{rows_printed}
use Rattle.ssql_select.specs.SelectionText.{selection_text}
use Rattle.ssql_types.specs.declared.statement.TypedStatement.TheVariants.{Select}
use Rattle.script_answers.specs.Statements.{statement_text}
use Rattle.script_answers.proofs.statements.print_selection.Goals as goal
use Rattle.script_answers.proofs.Unprinted.{in_memory, still_calm, unread_fault, unread_text}

pub returns-in-Ok-clause-printed : goal.returns-in-Ok-clause-printed
returns-in-Ok-clause-printed g c =
    let old = c.args.store.now in
    let query = c.args.query.now in
    rows_printed (TellsRows g.D.Disk.device old) c.print.result (g.K.Sink.state c.args.sink.now) (g.K.Sink.state c.print.new.sink) c.args.line_buffer.now c.in-Ok.text (statement_text (archive_of old) (Select query)) c.print.new.line_buffer
    (λ tells. c.in-Ok.ensures.text tells ∙ ap (λ (names : List (List ℕ)). selection_text names query (rows_in old.history)) c.requires.names) c.print.ensures

pub returns-in-Ok-clause-refused : goal.returns-in-Ok-clause-refused
returns-in-Ok-clause-refused g c =
    in_memory g.D.Disk.device c.args.store.now c.selection.new.store c.in-Ok.ensures.no_fault c.print.result (g.K.Sink.state c.args.sink.now) (g.K.Sink.state c.print.new.sink) (c.args.line_buffer.now ++ c.in-Ok.text) c.print.new.line_buffer c.print.ensures

pub returns-in-Ok-clause-no_fault : goal.returns-in-Ok-clause-no_fault
returns-in-Ok-clause-no_fault g c = still_calm g.D.Disk.device c.args.store.now c.selection.new.store c.in-Ok.ensures.no_fault c.print.result

-- its rows aren't read
pub returns-in-Err-clause-printed : goal.returns-in-Err-clause-printed
returns-in-Err-clause-printed g c =
    let old = c.args.store.now in
    unread_text (Unit {0}) (TellsRows g.D.Disk.device old) c.in-Err.fault c.print_fault_of.result c.print_fault_of.ensures (g.K.Sink.state c.args.sink.now) c.args.line_buffer.now (statement_text (archive_of old) (Select c.args.query.now)) c.args.line_buffer.now

pub returns-in-Err-clause-refused : goal.returns-in-Err-clause-refused
returns-in-Err-clause-refused g c =
    unread_fault g.D.Disk.device c.args.store.now c.selection.new.store c.in-Err.fault c.print_fault_of.result c.print_fault_of.ensures c.in-Err.ensures.refused
