use Rattle.std.proofs.Common.{◌≡◌, take}
use Rattle.std.specs.Prelude.{flat_map}
use Rattle.param_segments.specs.Cells.{segment_cells}
use Rattle.param_segments.specs.Groups.{set_of}
use Rattle.param_segments.specs.Octets.{rows_in_octets}
use Rattle.param_segments.proofs.cells.gathered_cells.Given as goal

abbrev pub invariant-loop-start : goal.invariant-loop-start
invariant-loop-start l = l.cells.items ≡ flat_map (segment_cells l.parameter) (take l.start-index (set_of (rows_in_octets l.octets)))
