use Rattle.std.proofs.Common.{◌++◌, ℕ, [], length}
use Rattle.std.proofs.lemmas.Result.{err_from_is_err_and}
use Rattle.line_buffer.specs.Printed.{IsCutOff, IsWritten}
use Rattle.line_buffer.proofs.PrintedTexts.{all_then, failed_front, none_left, printed_cut}
use Rattle.dump_commands.specs.ValuesPrinting.{cells_of_stored, end_of_cells, lines_of_cells}
use Rattle.dump_commands.proofs.values.print.Goals as goal

pub returns-in_err-count : goal.returns-in_err-count
returns-in_err-count g c =
    let db = c.args.known.now.mdb in
    let number = c.args.known.now.number in
    let stored = c.args.received.now.rows.table.stored in
    let first = g.K.Sink.state c.args.sink.now in
    let now = g.K.Sink.state c.print_cells.new.sink in
    let p = err_from_is_err_and c.from_residual.result c.from_residual.ensures.1 in
    failed_front ℕ c.from_residual.result p.0 first now (lines_of_cells db number stored) (end_of_cells c.args.received.now.end.why (length (cells_of_stored db number stored))) c.print_cells.new.line_buffer []
    p.1 (rw p.2 c.in_err-count.ensures.printed)

pub returns-in_err-flush : goal.returns-in_err-flush
returns-in_err-flush g c =
    let db = c.args.known.now.mdb in
    let number = c.args.known.now.number in
    let stored = c.args.received.now.rows.table.stored in
    let end = end_of_cells c.args.received.now.end.why (length (cells_of_stored db number stored)) in
    let first = g.K.Sink.state c.args.sink.now in
    let now = g.K.Sink.state c.print_cells.new.sink in
    let new = g.K.Sink.state c.flush.new.sink in
    let left = c.print_cells.new.line_buffer in
    let cut : IsCutOff now new (left ++ end) = rw (c.put_end.ensures, c.in_ok-count.ensures.count) at c.in_err-flush.ensures.written in
    let p = err_from_is_err_and c.from_residual-in_err-flush.result c.from_residual-in_err-flush.ensures.1 in
    rw (p.1, p.2) (printed_cut first now new (lines_of_cells db number stored) end left c.in_ok-count.ensures.printed cut)

pub returns : goal.returns
returns g c =
    let db = c.args.known.now.mdb in
    let number = c.args.known.now.number in
    let stored = c.args.received.now.rows.table.stored in
    let end = end_of_cells c.args.received.now.end.why (length (cells_of_stored db number stored)) in
    let first = g.K.Sink.state c.args.sink.now in
    let now = g.K.Sink.state c.print_cells.new.sink in
    let new = g.K.Sink.state c.flush.new.sink in
    let left = c.print_cells.new.line_buffer in
    let wrote : IsWritten now new (left ++ end) = rw (c.put_end.ensures, c.in_ok-count.ensures.count) at c.in_ok-flush.ensures.written in
    let lines = lines_of_cells db number stored in
    none_left first new (lines ++ end) (all_then first now new lines end left c.in_ok-count.ensures.printed wrote)
