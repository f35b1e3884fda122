use Rattle.std.proofs.Common.{◌++◌}
use Rattle.std.specs.Prelude.{flat_map, option_copied}
use Rattle.outer_traits.specs.Outside.{Stays}
use Rattle.retrieval.specs.CellText.{cell_line}
use Rattle.line_buffer.specs.Output.{IsBuffered}
use Rattle.retrieval.proofs.answer_text.print_cells.Given as goal
use Rattle.line_buffer.specs.LineRoom.{HasLineRoom}

abbrev pub invariant-loop-cell : goal.invariant-loop-cell
invariant-loop-cell g l = record {
  buffered : IsBuffered (g.K.Sink.state l.fn.sink).written (g.K.Sink.state l.sink).written (l.initial.line_buffer ++ flat_map (cell_line (option_copied l.fn.calibration)) l.cells)
      (l.line_buffer ++ flat_map (cell_line (option_copied l.fn.calibration)) l.cell-iterator);
  room : HasLineRoom l.line_buffer;
  no_fault : Stays (g.K.Sink.state l.fn.sink).faults (g.K.Sink.state l.sink).faults;
}
