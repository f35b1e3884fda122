use Rattle.std.proofs.Common.{◌≡◌, ◌∙◌, sym, ap}
use Rattle.refusals.specs.Refusal.{refusal_of_print}
use Rattle.archive_store.specs.StoreView.{archive_of}
use Rattle.retrieval.specs.FoundAsks.{asks_found}
use Rattle.ask_answers.specs.Collected.{collected_answers_text}
use Rattle.command_runs.specs.declared.report.Report.{Report}
use Rattle.ask_answers.proofs.AskSheets.{finished_line, unfinished_line}
use Rattle.load_command.proofs.LoadReports.{not_printed, printed}
use Rattle.load_command.proofs.Printing.{ran_printed}
use Rattle.load_command.proofs.running.print.Goals as goal

-- all was printed
pub returns-in-None : goal.returns-in-None
returns-in-None g c = λ disk left sources opened outcome behind first disk_is.
    let is = ap (λ (r : Report). r.refusal) c.loaded.ensures ∙ sym c.in-None.is in
    let line = rw (c.front-after.ensures, c.row_count-rows.ensures) at c.put_line.ensures in
    let before = g.K.Sink.state c.args.sink.now in
    let mid = g.K.Sink.state c.print_collected_answers.new.sink in
    let after = g.K.Sink.state c.finish.new.sink in
    let asks = asks_found c.args.asks.now in
    let answers = collected_answers_text (archive_of c.args.store.now) 1 asks c.args.answers.now in
    ran_printed g.D.Disk.device disk left sources opened asks outcome disk_is before after c.loaded.result (archive_of c.args.store.now) c.args.dumps c.args.answers.now behind c.args.before first
    (finished_line asks c.finish.result c.loaded.result.refusal before mid after answers c.print_collected_answers.new.line_buffer _ c.put_line.new.line_buffer is line c.in-Ok.ensures.printed c.finish.ensures)
    (printed c.loaded.result c.args.before c.front-after.result _ c.args.dumps.packets c.args.dumps.routed c.args.dumps.idle c.front-after.ensures c.loaded.ensures)

-- the last of it wasn't
pub returns-in-Some : goal.returns-in-Some
returns-in-Some g c = λ disk left sources opened outcome behind first disk_is.
    let is = ap (λ (r : Report). r.refusal) c.stopped.ensures ∙ sym c.in-Some.is in
    let line = rw (c.front-after.ensures, c.row_count-rows.ensures) at c.put_line.ensures in
    let before = g.K.Sink.state c.args.sink.now in
    let mid = g.K.Sink.state c.print_collected_answers.new.sink in
    let after = g.K.Sink.state c.finish.new.sink in
    let asks = asks_found c.args.asks.now in
    let answers = collected_answers_text (archive_of c.args.store.now) 1 asks c.args.answers.now in
    ran_printed g.D.Disk.device disk left sources opened asks outcome disk_is before after c.stopped.result (archive_of c.args.store.now) c.args.dumps c.args.answers.now behind c.args.before first
    (finished_line asks c.finish.result c.stopped.result.refusal before mid after answers c.print_collected_answers.new.line_buffer _ c.put_line.new.line_buffer is line c.in-Ok.ensures.printed c.finish.ensures)
    (not_printed c.stopped.result c.in-Some.refusal c.args.before _ c.args.dumps.packets c.args.dumps.routed c.args.dumps.idle (rw c.front-after.ensures at c.stopped.ensures))

-- an answer wasn't
pub returns-in-Err : goal.returns-in-Err
returns-in-Err g c = λ disk left sources opened outcome behind first disk_is.
    let is = ap (λ (r : Report). r.refusal) c.stopped-in-Err.ensures in
    let from : c.from.result ≡ refusal_of_print c.in-Err.fault = c.from.ensures in
    let before = g.K.Sink.state c.args.sink.now in
    let after = g.K.Sink.state c.print_collected_answers.new.sink in
    let asks = asks_found c.args.asks.now in
    let answers = collected_answers_text (archive_of c.args.store.now) 1 asks c.args.answers.now in
    ran_printed g.D.Disk.device disk left sources opened asks outcome disk_is before after c.stopped-in-Err.result (archive_of c.args.store.now) c.args.dumps c.args.answers.now behind c.args.before first
    (rw (is, from) (unfinished_line asks c.in-Err.fault before after answers c.print_collected_answers.new.line_buffer _ c.in-Err.ensures.asked c.in-Err.ensures.printed))
    (not_printed c.stopped-in-Err.result c.from.result c.args.before _ c.args.dumps.packets c.args.dumps.routed c.args.dumps.idle (rw c.front-after.ensures at c.stopped-in-Err.ensures))
