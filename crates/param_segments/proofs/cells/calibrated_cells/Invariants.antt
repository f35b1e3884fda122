use Rattle.std.proofs.Common.{◌≡◌, map, take}
use Rattle.param_segments.specs.Cells.{with_eng}
use Rattle.param_segments.proofs.cells.calibrated_cells.Given as goal

abbrev pub invariant-loop-cell : goal.invariant-loop-cell
invariant-loop-cell l = l.cells.items ≡ map (with_eng l.mdb l.parameter) (take l.cell-index l.raw)
