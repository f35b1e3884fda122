use Rattle.std.proofs.Common.{◌++◌}
use Rattle.archive_store.specs.StoreView.{archive_of}
use Rattle.script_answers.specs.Statements.{records_text}
use Rattle.script_answers.proofs.statements.print_records.Goals as goal
use Rattle.script_answers.proofs.Unprinted.{unprinted}

pub returns-in-Ok : goal.returns-in-Ok
returns-in-Ok g c = rw (c.as_slice.ensures.value, c.in-Ok.ensures.lines, c.requires.names) at c.print_lines.ensures

-- no memory
pub returns-in-Err : goal.returns-in-Err
returns-in-Err g c = rw c.memory_fault.ensures (unprinted (g.K.Sink.state c.args.sink.now) (c.args.line_buffer.now ++ records_text (archive_of c.args.store.now) c.args.table))
