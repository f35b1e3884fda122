use Rattle.std.proofs.Common.{drop}
use Rattle.std.specs.Prelude.{◌↔◌}
use Rattle.param_segments.specs.RowPlaces.{AreRangesOf}
use Rattle.param_segments.proofs.asking.are_ranges_of.Given as goal

abbrev pub invariant-loop-i : goal.invariant-loop-i
invariant-loop-i l = AreRangesOf l.mdb (drop l.i l.parameters) (drop l.i l.ranges) ↔ AreRangesOf l.mdb l.parameters l.ranges
