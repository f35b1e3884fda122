use Rattle.std.proofs.Common.{◌≡◌}
use Rattle.refusals.specs.Refusal.{refusal_of_print}
use Rattle.archive_store.specs.StoreView.{filled_of}
use Rattle.retrieval.specs.FoundAsks.{asks_found}
use Rattle.ask_answers.specs.Asks.{archive_asks_text}
use Rattle.query_commands.proofs.Replies.{finished_read, finished_rows, unfinished_read, unfinished_rows}
use Rattle.query_commands.proofs.query.answer_asks.Goals as goal

pub returns-in-Ok-clause-printed : goal.returns-in-Ok-clause-printed
returns-in-Ok-clause-printed g c =
    finished_rows g.D.Disk.device c.args.store.now c.print_asks.new.store c.print_asks.ensures.same c.finish.result (g.K.Sink.state c.args.sink.now) (g.K.Sink.state c.print_asks.new.sink) (g.K.Sink.state c.finish.new.sink)
    (archive_asks_text (filled_of c.args.store.now) 1 (asks_found c.args.asks.now)) c.print_asks.new.line_buffer c.in-Ok.ensures.printed c.finish.ensures

pub returns-in-Ok-clause-read : goal.returns-in-Ok-clause-read
returns-in-Ok-clause-read g c =
    finished_read g.D.Disk.device c.args.store.now c.print_asks.new.store c.print_asks.ensures.same c.finish.result (g.K.Sink.state c.print_asks.new.sink) (g.K.Sink.state c.finish.new.sink) c.print_asks.new.line_buffer
    c.in-Ok.ensures.no_fault c.finish.ensures

pub returns-in-Err-clause-printed : goal.returns-in-Err-clause-printed
returns-in-Err-clause-printed g c =
    let is : c.from.result ≡ refusal_of_print c.in-Err.fault = c.from.ensures in
    rw is
    (unfinished_rows g.D.Disk.device c.args.store.now c.print_asks.new.store c.print_asks.ensures.same c.in-Err.fault (g.K.Sink.state c.args.sink.now) (g.K.Sink.state c.print_asks.new.sink)
    (archive_asks_text (filled_of c.args.store.now) 1 (asks_found c.args.asks.now)) c.print_asks.new.line_buffer c.in-Err.ensures.refused c.in-Err.ensures.printed)

pub returns-in-Err-clause-read : goal.returns-in-Err-clause-read
returns-in-Err-clause-read g c =
    let is : c.from.result ≡ refusal_of_print c.in-Err.fault = c.from.ensures in
    rw is (unfinished_read g.D.Disk.device c.args.store.now c.print_asks.new.store c.print_asks.ensures.same c.in-Err.fault c.in-Err.ensures.refused)
