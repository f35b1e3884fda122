use Rattle.std.proofs.Common.{◌++◌, take}
use Rattle.std.specs.Prelude.{flat_map}
use Rattle.line_buffer.specs.Printed.{IsPrinted}
use Rattle.ssql_select.specs.ShowText.{show_line}
use Rattle.ssql_select.proofs.show.print_lines.Given as goal

abbrev pub invariant-loop-shown : goal.invariant-loop-shown
invariant-loop-shown g l =
    IsPrinted (g.K.Sink.state l.fn.sink) (g.K.Sink.state l.sink) (l.initial.line_buffer ++ flat_map (show_line l.names) (take l.shown-index l.lines)) l.line_buffer
