use Rattle.std.proofs.Common.{◌≤◌, ◌-◌, length, take}
use Rattle.outer_traits.specs.Outside.{Stays}
use Rattle.line_buffer.specs.Output.{Appends}
use Rattle.line_buffer.proofs.write.write_all.Given as goal

abbrev pub invariant-loop-at : goal.invariant-loop-at
invariant-loop-at g l = record {
  within : l.at ≤ length l.text;
  known : Appends (g.K.Sink.state l.fn.sink).written (g.K.Sink.state l.sink).written (take l.at l.text);
  no_fault : Stays (g.K.Sink.state l.fn.sink).faults (g.K.Sink.state l.sink).faults;
}

abbrev pub decreases-loop-at : goal.decreases-loop-at
decreases-loop-at g l = length l.text - l.at
