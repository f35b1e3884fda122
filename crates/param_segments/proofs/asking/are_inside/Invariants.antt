use Rattle.std.proofs.Common.{take}
use Rattle.std.specs.List.{AllByRecursion}
use Rattle.param_segments.specs.RowPlaces.{IsInside}
use Rattle.param_segments.proofs.asking.are_inside.Given as goal

abbrev pub invariant-loop-segment : goal.invariant-loop-segment
invariant-loop-segment l = AllByRecursion (IsInside l.exponent l.interval.0) (take l.segment-index l.segments)
