use Rattle.std.proofs.Common.{◌++◌, ◌∙◌, List, ℕ, ap}
use Rattle.archive_store.specs.Pages.{TellsRows}
use Rattle.archive_store.specs.StoreView.{archive_of}
use Rattle.line_buffer.proofs.PrintedTexts.{rows_printed}
use Rattle.ssql_select.specs.ShowText.{show_text}
use Rattle.ssql_select.specs.declared.show.ShowLine.{ShowLine}
use Rattle.ssql_types.specs.declared.statement.TypedStatement.TheVariants.{ShowPartitions}
use Rattle.script_answers.specs.Statements.{packet_names, statement_text}
use Rattle.script_answers.proofs.statements.print_partitions.Goals as goal
use Rattle.script_answers.proofs.Unprinted.{in_memory, still_calm, unread_fault, unread_text}

pub returns-in-Ok-clause-printed : goal.returns-in-Ok-clause-printed
returns-in-Ok-clause-printed g c =
    let old = c.args.store.now in
    rows_printed (TellsRows g.D.Disk.device old) c.print_show.result (g.K.Sink.state c.args.sink.now) (g.K.Sink.state c.print_show.new.sink) c.args.line_buffer.now (show_text c.args.names.now c.as_slice.result.now) (statement_text (archive_of old) (ShowPartitions c.args.table)) c.print_show.new.line_buffer
    (λ tells. ap (λ (names : List (List ℕ)). show_text names c.as_slice.result.now) c.requires.names ∙ ap (λ (lines : List ShowLine). show_text (packet_names old.head old.history) lines) (c.as_slice.ensures.value ∙ c.in-Ok.ensures.lines tells)) c.print_show.ensures

pub returns-in-Ok-clause-refused : goal.returns-in-Ok-clause-refused
returns-in-Ok-clause-refused g c =
    in_memory g.D.Disk.device c.args.store.now c.table_partitions.new.store c.in-Ok.ensures.no_fault c.print_show.result (g.K.Sink.state c.args.sink.now) (g.K.Sink.state c.print_show.new.sink) (c.args.line_buffer.now ++ show_text c.args.names.now c.as_slice.result.now) c.print_show.new.line_buffer c.print_show.ensures

pub returns-in-Ok-clause-no_fault : goal.returns-in-Ok-clause-no_fault
returns-in-Ok-clause-no_fault g c = still_calm g.D.Disk.device c.args.store.now c.table_partitions.new.store c.in-Ok.ensures.no_fault c.print_show.result

-- their rows aren't read
pub returns-in-Err-clause-printed : goal.returns-in-Err-clause-printed
returns-in-Err-clause-printed g c =
    let old = c.args.store.now in
    unread_text (Unit {0}) (TellsRows g.D.Disk.device old) c.in-Err.fault c.print_fault_of.result c.print_fault_of.ensures (g.K.Sink.state c.args.sink.now) c.args.line_buffer.now (statement_text (archive_of old) (ShowPartitions c.args.table)) c.args.line_buffer.now

pub returns-in-Err-clause-refused : goal.returns-in-Err-clause-refused
returns-in-Err-clause-refused g c =
    unread_fault g.D.Disk.device c.args.store.now c.table_partitions.new.store c.in-Err.fault c.print_fault_of.result c.print_fault_of.ensures c.in-Err.ensures.refused
