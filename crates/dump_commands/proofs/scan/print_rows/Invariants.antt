use Rattle.std.proofs.Common.{◌++◌}
use Rattle.std.specs.Prelude.{flat_map}
use Rattle.outer_traits.specs.Outside.{Stays}
use Rattle.dump_lines.specs.Printing.{line_of_entry, lines_of}
use Rattle.line_buffer.specs.Output.{IsBuffered}
use Rattle.dump_commands.proofs.scan.print_rows.Given as goal
use Rattle.line_buffer.specs.LineRoom.{HasLineRoom}

abbrev pub invariant-loop-entry : goal.invariant-loop-entry
invariant-loop-entry g l = record {
  buffered : IsBuffered (g.K.Sink.state l.fn.sink).written (g.K.Sink.state l.sink).written (lines_of l.lengths.entries) (l.line_buffer ++ flat_map line_of_entry l.entry-iterator);
  room : HasLineRoom l.line_buffer;
  no_fault : Stays (g.K.Sink.state l.fn.sink).faults (g.K.Sink.state l.sink).faults;
}
