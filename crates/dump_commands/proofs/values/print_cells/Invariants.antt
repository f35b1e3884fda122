use Rattle.std.proofs.Common.{◌≡◌, ◌+◌, ◌≤◌, ◌++◌, length}
use Rattle.std.specs.Prelude.{flat_map}
use Rattle.std.specs.List.{filter_map}
use Rattle.arch_types.specs.Table.{sorted}
use Rattle.yarch_table.specs.Stored.{rows_of}
use Rattle.container_extract.specs.Extraction.{cell_of}
use Rattle.outer_traits.specs.Outside.{Stays}
use Rattle.line_buffer.specs.Output.{IsBuffered}
use Rattle.dump_commands.specs.ValuesPrinting.{cells_of_stored, line_of, lines_of_cells}
use Rattle.dump_commands.proofs.values.print_cells.Given as goal
use Rattle.line_buffer.specs.LineRoom.{HasLineRoom}

abbrev pub invariant-loop-row : goal.invariant-loop-row
invariant-loop-row g l = record {
  buffered : IsBuffered (g.K.Sink.state l.fn.sink).written (g.K.Sink.state l.sink).written (lines_of_cells l.known.mdb l.known.number l.table.stored)
      (l.line_buffer ++ flat_map (line_of l.known.mdb l.known.number) l.row-iterator);
  room : HasLineRoom l.line_buffer;
  counted : l.count + length (filter_map (cell_of l.known.mdb l.known.number) l.row-iterator) ≡ length (cells_of_stored l.known.mdb l.known.number l.table.stored);
  steps : l.steps + length l.row-iterator ≤ l.initial.steps + length (sorted (rows_of l.table.stored));
  no_fault : Stays (g.K.Sink.state l.fn.sink).faults (g.K.Sink.state l.sink).faults;
}
