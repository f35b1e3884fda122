use Rattle.std.proofs.Common.{take}
use Rattle.std.specs.Prelude.{flat_map}
use Rattle.arch_types.specs.Directions.{in_direction}
use Rattle.param_segments.specs.CellRange.{segment_cells_in_range}
use Rattle.param_segments.specs.Groups.{set_of}
use Rattle.param_segments.specs.Octets.{rows_in_octets}
use Rattle.param_segments.proofs.AskedGroups.{WantsNext}
use Rattle.param_segments.proofs.DirectedCells.{ranked}
use Rattle.param_segments.proofs.FirstItems.{HasEnough}
use Rattle.param_segments.proofs.range_cells.first_of_groups.Given as goal

abbrev pub invariant-loop-step : goal.invariant-loop-step
invariant-loop-step l = record {
  enough : HasEnough (ranked l.range.direction) l.limit (flat_map (segment_cells_in_range l.parameter l.range.from l.range.to) (take l.step (in_direction l.range.direction (set_of (rows_in_octets l.octets))))) l.cells.items;
  next : WantsNext l.range.direction (set_of (rows_in_octets l.octets)) l.step l.limit l.wanted l.cells.items;
}
