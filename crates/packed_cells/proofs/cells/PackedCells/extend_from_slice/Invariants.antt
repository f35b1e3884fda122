use Rattle.std.proofs.Common.{◌≡◌, ◌++◌, take}
use Rattle.packed_cells.proofs.cells.PackedCells.extend_from_slice.Given as goal

abbrev pub invariant-loop-cell : goal.invariant-loop-cell
invariant-loop-cell l = l.self ≡ l.initial.self ++ take l.cell-index l.cells
