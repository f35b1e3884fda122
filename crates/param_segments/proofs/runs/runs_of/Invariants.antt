use Rattle.std.proofs.Common.{take}
use Rattle.param_segments.specs.Runs.{AreRunsSoFar}
use Rattle.param_segments.proofs.runs.runs_of.Given as goal

abbrev pub invariant-loop-segment : goal.invariant-loop-segment
invariant-loop-segment l = AreRunsSoFar (take l.segment-index l.segments) l.runs
