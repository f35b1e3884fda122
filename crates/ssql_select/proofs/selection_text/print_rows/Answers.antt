use Rattle.std.proofs.Common.{◌≡◌, ◌++◌, ◌∙◌, ℕ, List, ap}
use Rattle.std.proofs.lemmas.Result.{err_from_is_err_and}
use Rattle.ssql_select.specs.SelectionText.{selected_line}
use Rattle.ssql_select.proofs.Printings.{lines_part_printed, lines_done, line_printed, line_failed}
use Rattle.ssql_select.proofs.selection_text.print_rows.Goals as goal

pub loop-row-preserved : goal.loop-row-preserved
loop-row-preserved g c =
    let line = selected_line c.args.names.now c.args.columns.now in
    let front = c.args.line_buffer.now in
    let rows = c.args.rows.now in
    let i = c.loop-row.row-index in
    let first = g.K.Sink.state c.args.sink.now in
    let now = g.K.Sink.state c.loop-row.sink in
    let left = c.loop-row.line_buffer in
    let row = c.row-item.result in
    let new = g.K.Sink.state c.print_octets.new.sink in
    let octets = c.as_slice.result.now in
    let are : octets ≡ line row = c.as_slice.ensures.value ∙ c.in_ok-put_selected.ensures ∙ ap (λ (l : List ℕ). l ++ line row) c.clear.ensures.items in
    let last = c.print_octets.new.line_buffer in
    line_printed line front rows i row c.loop-row-test.true c.row-item.is octets are first now new left last c.loop-row.invariant c.in_ok-print_octets.ensures

pub returns : goal.returns
returns g c =
    let line = selected_line c.args.names.now c.args.columns.now in
    let front = c.args.line_buffer.now in
    let rows = c.args.rows.now in
    let i = c.loop-row.row-index in
    let first = g.K.Sink.state c.args.sink.now in
    let now = g.K.Sink.state c.loop-row.sink in
    let left = c.loop-row.line_buffer in
    lines_done line front rows i first now left c.loop-row-test.false c.loop-row.invariant

pub returns-in_err-put_selected : goal.returns-in_err-put_selected
returns-in_err-put_selected g c =
    let line = selected_line c.args.names.now c.args.columns.now in
    let front = c.args.line_buffer.now in
    let rows = c.args.rows.now in
    let i = c.loop-row.row-index in
    let first = g.K.Sink.state c.args.sink.now in
    let now = g.K.Sink.state c.loop-row.sink in
    let left = c.loop-row.line_buffer in
    let p = err_from_is_err_and c.from_residual.result c.from_residual.ensures.1 in
    rw (p.1, p.2) (lines_part_printed line front rows i first now left c.loop-row.invariant)

pub returns-in_err-print_octets : goal.returns-in_err-print_octets
returns-in_err-print_octets g c =
    let line = selected_line c.args.names.now c.args.columns.now in
    let front = c.args.line_buffer.now in
    let rows = c.args.rows.now in
    let i = c.loop-row.row-index in
    let first = g.K.Sink.state c.args.sink.now in
    let now = g.K.Sink.state c.loop-row.sink in
    let left = c.loop-row.line_buffer in
    let row = c.row-item.result in
    let new = g.K.Sink.state c.print_octets.new.sink in
    let octets = c.as_slice.result.now in
    let are : octets ≡ line row = c.as_slice.ensures.value ∙ c.in_ok-put_selected.ensures ∙ ap (λ (l : List ℕ). l ++ line row) c.clear.ensures.items in
    let last = c.print_octets.new.line_buffer in
    let p = err_from_is_err_and c.from_residual-in_err-print_octets.result c.from_residual-in_err-print_octets.ensures.1 in
    line_failed line front rows i row c.loop-row-test.true c.row-item.is octets are c.from_residual-in_err-print_octets.result p.0 first now new left last p.1 c.loop-row.invariant (rw p.2 c.in_err-print_octets.ensures)
