use Rattle.std.proofs.Common.{◌≡◌, ◌++◌, ◌∙◌, ℕ, List, length, ap, subst}
use Rattle.std.specs.Prelude.{flat_map}
use Rattle.std.proofs.lemmas.Result.{err_from_is_err_and}
use Rattle.arch_types.specs.declared.row.Row.{Row}
use Rattle.line_buffer.specs.Printed.{PrintsText}
use Rattle.ssql_select.specs.SelectionText.{selected_line, select_line, selection_lines}
use Rattle.ssql_select.proofs.Printings.{all_printed, lines_failed}
use Rattle.ssql_select.proofs.selection_text.SelectionText.print.Goals as goal

pub returns-in_err-print_rows : goal.returns-in_err-print_rows
returns-in_err-print_rows g c =
    let names = c.self.inside.names.now in
    let columns = c.self.inside.columns.now in
    let rows = c.as_slice-rows.result.now in
    let lines = flat_map (selected_line names columns) rows in
    let end = select_line (length rows) in
    let front = c.args.line_buffer.now in
    let first = g.K.Sink.state c.args.sink.now in
    let now = g.K.Sink.state c.print_rows.new.sink in
    let left = c.print_rows.new.line_buffer in
    let whole : lines ++ end ≡ c.args.self.now = ap (λ (rs : List Row). selection_lines names columns rs) c.as_slice-rows.ensures.value ∙ c.self.view_is in
    let p = err_from_is_err_and c.from_residual.result c.from_residual.ensures.1 in
    subst (λ (l : List ℕ). PrintsText c.from_residual.result first now (front ++ l) left) whole
    (lines_failed c.from_residual.result p.0 first now front lines end left left p.1 (rw p.2 c.in_err-print_rows.ensures))

pub returns : goal.returns
returns g c =
    let names = c.self.inside.names.now in
    let columns = c.self.inside.columns.now in
    let rows = c.as_slice-rows.result.now in
    let lines = flat_map (selected_line names columns) rows in
    let end = select_line (length rows) in
    let front = c.args.line_buffer.now in
    let first = g.K.Sink.state c.args.sink.now in
    let now = g.K.Sink.state c.print_rows.new.sink in
    let left = c.print_rows.new.line_buffer in
    let whole : lines ++ end ≡ c.args.self.now = ap (λ (rs : List Row). selection_lines names columns rs) c.as_slice-rows.ensures.value ∙ c.self.view_is in
    let new = g.K.Sink.state c.print_count.new.sink in
    let last = c.print_count.new.line_buffer in
    subst (λ (l : List ℕ). PrintsText c.print_count.result first new (front ++ l) last) whole
    (all_printed c.print_count.result first now new front lines end left last c.in_ok-print_rows.ensures c.print_count.ensures)
