use Rattle.std.proofs.Common.{◌++◌, drop}
use Rattle.outer_traits.specs.Outside.{Stays}
use Rattle.line_buffer.specs.Output.{IsBuffered}
use Rattle.retrieval.specs.ReplayText.{packet_lines}
use Rattle.retrieval.proofs.replay.print_rows.Given as goal
use Rattle.line_buffer.specs.LineRoom.{HasLineRoom}

abbrev pub invariant-loop-row : goal.invariant-loop-row
invariant-loop-row g l = record {
  buffered : IsBuffered (g.K.Sink.state l.fn.sink).written (g.K.Sink.state l.sink).written (l.initial.line_buffer ++ packet_lines l.names l.table l.rows)
      (l.line_buffer ++ packet_lines l.names l.table (drop l.row-index l.rows));
  room : HasLineRoom l.line_buffer;
  no_fault : Stays (g.K.Sink.state l.fn.sink).faults (g.K.Sink.state l.sink).faults;
}
