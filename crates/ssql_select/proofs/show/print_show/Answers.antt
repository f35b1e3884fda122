use Rattle.std.proofs.Common.{length}
use Rattle.std.specs.Prelude.{flat_map}
use Rattle.std.proofs.lemmas.Result.{err_from_is_err_and}
use Rattle.ssql_select.specs.ShowText.{show_end, show_line}
use Rattle.ssql_select.proofs.Printings.{all_printed, lines_failed}
use Rattle.ssql_select.proofs.show.print_show.Goals as goal

pub returns-in_err-print_lines : goal.returns-in_err-print_lines
returns-in_err-print_lines g c =
    let shown = c.args.lines.now in
    let front = c.args.line_buffer.now in
    let first = g.K.Sink.state c.args.sink.now in
    let now = g.K.Sink.state c.print_lines.new.sink in
    let left = c.print_lines.new.line_buffer in
    let p = err_from_is_err_and c.from_residual.result c.from_residual.ensures.1 in
    lines_failed c.from_residual.result p.0 first now front (flat_map (show_line c.args.names.now) shown) (show_end (length shown)) left left p.1 (rw p.2 c.in_err-print_lines.ensures)

pub returns : goal.returns
returns g c =
    let shown = c.args.lines.now in
    let front = c.args.line_buffer.now in
    let first = g.K.Sink.state c.args.sink.now in
    let now = g.K.Sink.state c.print_lines.new.sink in
    let new = g.K.Sink.state c.print_end.new.sink in
    all_printed c.print_end.result first now new front (flat_map (show_line c.args.names.now) shown) (show_end (length shown)) c.print_lines.new.line_buffer c.print_end.new.line_buffer c.in_ok-print_lines.ensures
    c.print_end.ensures
