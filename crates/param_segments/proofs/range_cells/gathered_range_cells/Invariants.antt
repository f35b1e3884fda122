use Rattle.std.proofs.Common.{◌≡◌, take}
use Rattle.std.specs.Prelude.{flat_map}
use Rattle.param_segments.specs.CellRange.{segment_cells_asked}
use Rattle.param_segments.specs.Groups.{set_of}
use Rattle.param_segments.specs.Octets.{rows_in_octets}
use Rattle.param_segments.proofs.range_cells.gathered_range_cells.Given as goal

abbrev pub invariant-loop-number : goal.invariant-loop-number
invariant-loop-number l = l.cells.items ≡ flat_map (segment_cells_asked l.parameter l.range) (take l.number (set_of (rows_in_octets l.octets)))
