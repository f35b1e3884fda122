use Rattle.std.proofs.Common.{length}
use Rattle.histogram.specs.SpanEntries.{HasTakenNear}
use Rattle.histogram.proofs.near.take_near.Given as goal

abbrev pub invariant-loop-near : goal.invariant-loop-near
invariant-loop-near l = HasTakenNear l.pname l.at l.initial.index l.index l.span

abbrev pub decreases-loop-near : goal.decreases-loop-near
decreases-loop-near l = length l.index.entries
