use Rattle.std.proofs.Common.{◌++◌, take}
use Rattle.std.specs.Prelude.{flat_map}
use Rattle.line_buffer.specs.Printed.{IsPrinted}
use Rattle.ssql_select.specs.SelectionText.{selected_line}
use Rattle.ssql_select.proofs.selection_text.print_rows.Given as goal

abbrev pub invariant-loop-row : goal.invariant-loop-row
invariant-loop-row g l =
    IsPrinted (g.K.Sink.state l.fn.sink) (g.K.Sink.state l.sink) (l.initial.line_buffer ++ flat_map (selected_line l.names l.columns) (take l.row-index l.rows)) l.line_buffer
