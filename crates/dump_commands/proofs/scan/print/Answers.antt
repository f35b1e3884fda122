use Rattle.std.proofs.lemmas.Result.{err_from_is_err_and}
use Rattle.dump_lines.specs.Printing.{lines_of, end_of}
use Rattle.line_buffer.proofs.PrintedTexts.{cut_front, writes_then}
use Rattle.dump_commands.proofs.scan.print.Goals as goal

pub returns-in_err-print_rows : goal.returns-in_err-print_rows
returns-in_err-print_rows g c =
    let p = err_from_is_err_and c.from_residual.result c.from_residual.ensures.1 in
    rw p.1 (cut_front (g.K.Sink.state c.args.sink.now) (g.K.Sink.state c.print_rows.new.sink) (lines_of c.args.received.now.rows.lengths.entries) (end_of c.args.received.now.end.why c.args.received.now.rows.counts) c.in_err-print_rows.ensures)

pub returns : goal.returns
returns g c =
    writes_then c.flush.result (g.K.Sink.state c.args.sink.now) (g.K.Sink.state c.print_rows.new.sink) (g.K.Sink.state c.flush.new.sink) (lines_of c.args.received.now.rows.lengths.entries)
    (end_of c.args.received.now.end.why c.args.received.now.rows.counts) c.print_rows.new.line_buffer c.in_ok-print_rows.ensures (rw c.put_end.ensures at c.flush.ensures.written)
