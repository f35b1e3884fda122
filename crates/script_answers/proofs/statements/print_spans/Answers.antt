use Rattle.std.proofs.Common.{◌++◌}
use Rattle.archive_store.specs.StoreView.{archive_of}
use Rattle.ssql_types.specs.declared.statement.TypedStatement.TheVariants.{ShowHistogram}
use Rattle.script_answers.specs.Statements.{statement_text}
use Rattle.script_answers.proofs.statements.print_spans.Goals as goal
use Rattle.script_answers.proofs.Unprinted.{unprinted}

pub returns-in-Ok : goal.returns-in-Ok
returns-in-Ok g c = rw (c.as_slice.ensures.value, c.in-Ok.ensures.lines, c.requires.names) at c.print_show.ensures

-- no memory
pub returns-in-Err : goal.returns-in-Err
returns-in-Err g c = rw c.memory_fault.ensures (unprinted (g.K.Sink.state c.args.sink.now) (c.args.line_buffer.now ++ statement_text (archive_of c.args.store.now) (ShowHistogram c.args.table)))
