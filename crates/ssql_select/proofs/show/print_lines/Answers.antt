use Rattle.std.proofs.lemmas.Result.{err_from_is_err_and}
use Rattle.ssql_select.specs.ShowText.{show_line}
use Rattle.ssql_select.proofs.Printings.{lines_part_printed, lines_done, next_printed, next_failed, only_added}
use Rattle.ssql_select.proofs.show.print_lines.Goals as goal

pub loop-shown-preserved : goal.loop-shown-preserved
loop-shown-preserved g c =
    let line = show_line c.args.names.now in
    let front = c.args.line_buffer.now in
    let rows = c.args.lines.now in
    let i = c.loop-shown.shown-index in
    let first = g.K.Sink.state c.args.sink.now in
    let now = g.K.Sink.state c.loop-shown.sink in
    let left = c.loop-shown.line_buffer in
    let new = g.K.Sink.state c.print_octets.new.sink in
    let octets = c.as_slice.result.now in
    let are = only_added _ _ _ _ c.as_slice.ensures.value c.in_ok-put_line.ensures c.clear.ensures.items in
    let last = c.print_octets.new.line_buffer in
    next_printed line front rows i _ c.loop-shown-test.true octets are first now new left last c.loop-shown.invariant c.in_ok-print_octets.ensures

pub returns : goal.returns
returns g c =
    let line = show_line c.args.names.now in
    let front = c.args.line_buffer.now in
    let rows = c.args.lines.now in
    let i = c.loop-shown.shown-index in
    let first = g.K.Sink.state c.args.sink.now in
    let now = g.K.Sink.state c.loop-shown.sink in
    let left = c.loop-shown.line_buffer in
    lines_done line front rows i first now left c.loop-shown-test.false c.loop-shown.invariant

pub returns-in_err-put_line : goal.returns-in_err-put_line
returns-in_err-put_line g c =
    let line = show_line c.args.names.now in
    let front = c.args.line_buffer.now in
    let rows = c.args.lines.now in
    let i = c.loop-shown.shown-index in
    let first = g.K.Sink.state c.args.sink.now in
    let now = g.K.Sink.state c.loop-shown.sink in
    let left = c.loop-shown.line_buffer in
    let p = err_from_is_err_and c.from_residual.result c.from_residual.ensures.1 in
    rw (p.1, p.2) (lines_part_printed line front rows i first now left c.loop-shown.invariant)

pub returns-in_err-print_octets : goal.returns-in_err-print_octets
returns-in_err-print_octets g c =
    let line = show_line c.args.names.now in
    let front = c.args.line_buffer.now in
    let rows = c.args.lines.now in
    let i = c.loop-shown.shown-index in
    let first = g.K.Sink.state c.args.sink.now in
    let now = g.K.Sink.state c.loop-shown.sink in
    let left = c.loop-shown.line_buffer in
    let new = g.K.Sink.state c.print_octets.new.sink in
    let octets = c.as_slice.result.now in
    let are = only_added _ _ _ _ c.as_slice.ensures.value c.in_ok-put_line.ensures c.clear.ensures.items in
    let last = c.print_octets.new.line_buffer in
    let p = err_from_is_err_and c.from_residual-in_err-print_octets.result c.from_residual-in_err-print_octets.ensures.1 in
    next_failed line front rows i _ c.loop-shown-test.true octets are c.from_residual-in_err-print_octets.result p.0 first now new left last p.1 c.loop-shown.invariant (rw p.2 c.in_err-print_octets.ensures)
