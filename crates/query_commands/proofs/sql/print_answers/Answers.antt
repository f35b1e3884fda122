use Rattle.std.proofs.Common.{◌≡◌}
use Rattle.refusals.specs.Refusal.{refusal_of_print}
use Rattle.archive_store.specs.StoreView.{archive_of}
use Rattle.script_answers.specs.Statements.{statements_text}
use Rattle.query_commands.proofs.Replies.{finished_read, finished_rows, unfinished_read, unfinished_rows}
use Rattle.query_commands.proofs.sql.print_answers.Goals as goal

pub returns-in-Ok-clause-printed : goal.returns-in-Ok-clause-printed
returns-in-Ok-clause-printed g c =
    finished_rows g.D.Disk.device c.args.store.now c.answer_statements.new.store c.answer_statements.ensures.same c.finish.result (g.K.Sink.state c.args.sink.now) (g.K.Sink.state c.answer_statements.new.sink) (g.K.Sink.state c.finish.new.sink)
    (statements_text (archive_of c.args.store.now) c.args.statements.now) c.answer_statements.new.line_buffer (rw c.requires.empty at c.in-Ok.ensures.printed) c.finish.ensures

pub returns-in-Ok-clause-read : goal.returns-in-Ok-clause-read
returns-in-Ok-clause-read g c =
    finished_read g.D.Disk.device c.args.store.now c.answer_statements.new.store c.answer_statements.ensures.same c.finish.result (g.K.Sink.state c.answer_statements.new.sink) (g.K.Sink.state c.finish.new.sink)
    c.answer_statements.new.line_buffer c.in-Ok.ensures.no_fault c.finish.ensures

pub returns-in-Err-clause-printed : goal.returns-in-Err-clause-printed
returns-in-Err-clause-printed g c =
    let is : c.from.result ≡ refusal_of_print c.in-Err.fault = c.from.ensures in
    rw is
    (unfinished_rows g.D.Disk.device c.args.store.now c.answer_statements.new.store c.answer_statements.ensures.same c.in-Err.fault (g.K.Sink.state c.args.sink.now) (g.K.Sink.state c.answer_statements.new.sink)
    (statements_text (archive_of c.args.store.now) c.args.statements.now) c.answer_statements.new.line_buffer c.in-Err.ensures.refused (rw c.requires.empty at c.in-Err.ensures.printed))

pub returns-in-Err-clause-read : goal.returns-in-Err-clause-read
returns-in-Err-clause-read g c =
    let is : c.from.result ≡ refusal_of_print c.in-Err.fault = c.from.ensures in
    rw is (unfinished_read g.D.Disk.device c.args.store.now c.answer_statements.new.store c.answer_statements.ensures.same c.in-Err.fault c.in-Err.ensures.refused)
