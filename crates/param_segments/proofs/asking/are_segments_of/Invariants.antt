use Rattle.std.proofs.Common.{take}
use Rattle.std.specs.List.{AllByRecursion}
use Rattle.param_segments.specs.RowPlaces.{IsSegmentOf}
use Rattle.param_segments.proofs.asking.are_segments_of.Given as goal

abbrev pub invariant-loop-segment : goal.invariant-loop-segment
invariant-loop-segment l = AllByRecursion (IsSegmentOf l.mdb) (take l.segment-index l.segments)
