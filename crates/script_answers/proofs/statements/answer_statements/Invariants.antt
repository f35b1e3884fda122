use Rattle.std.proofs.Common.{◌+◌, ◌≤◌, take, Ok}
use Rattle.std.specs.Prelude.{flat_map, sum_by}
use Rattle.arch_disk.specs.Disk.{NoFault}
use Rattle.archive_store.specs.Pages.{TellsRows}
use Rattle.archive_store.specs.StoreView.{archive_of}
use Rattle.archive_store.specs.UnreadRows.{IsReadOn}
use Rattle.line_buffer.specs.Printed.{PrintsRows}
use Rattle.script_answers.specs.Statements.{statement_text, steps_of_statement}
use Rattle.script_answers.proofs.statements.answer_statements.Given as goal

abbrev pub invariant-loop-statement : goal.invariant-loop-statement
invariant-loop-statement g l =
    let told = TellsRows g.D.Disk.device l.fn.store in
    record {
      printed : PrintsRows {X = Unit {0}} told (Ok tt) (g.K.Sink.state l.fn.sink) (g.K.Sink.state l.sink) l.initial.line_buffer (flat_map (statement_text (archive_of l.fn.store)) (take l.statement-index l.statements)) l.line_buffer;
      steps : told → l.steps ≤ l.initial.steps + sum_by (steps_of_statement l.fn.store.history) (take l.statement-index l.statements);
      calm : NoFault g.D.Disk.device l.fn.store.disk l.store.disk;
      same : IsReadOn g.D.Disk.device l.fn.store l.store;
    }
