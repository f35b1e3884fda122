use Rattle.std.proofs.lemmas.Result.{err_from_is_err_and}
use Rattle.ssql_select.proofs.Printings.{all_written, some_written}
use Rattle.ssql_select.proofs.printing.print_octets.Goals as goal

pub returns-in_err-write_all : goal.returns-in_err-write_all
returns-in_err-write_all g c =
    let old = c.args.line_buffer.now in
    let octets = c.args.octets.now in
    let first = g.K.Sink.state c.args.sink.now in
    let now = g.K.Sink.state c.flush.new.sink in
    let new = g.K.Sink.state c.write_all.new.sink in
    let p = err_from_is_err_and c.from_residual-in_err-write_all.result c.from_residual-in_err-write_all.ensures.1 in
    rw (p.1, p.2) (some_written first now new old octets c.in_ok-flush.ensures.written.all c.in_ok-flush.ensures.written.no_fault c.in_err-write_all.ensures.some c.in_err-write_all.ensures.later c.in_err-write_all.ensures.failed)

pub returns : goal.returns
returns g c =
    let old = c.args.line_buffer.now in
    let octets = c.args.octets.now in
    let first = g.K.Sink.state c.args.sink.now in
    let now = g.K.Sink.state c.flush.new.sink in
    let new = g.K.Sink.state c.write_all.new.sink in
    rw c.in_ok-flush.ensures.empty (all_written first now new old octets c.in_ok-flush.ensures.written.all c.in_ok-flush.ensures.written.no_fault c.in_ok-write_all.ensures.all c.in_ok-write_all.ensures.no_fault)
