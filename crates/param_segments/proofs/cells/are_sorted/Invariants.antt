use Rattle.std.proofs.Common.{◌≡◌, ℕ, ◌+◌, ◌<◌, get_or, false}
use Rattle.param_segments.specs.declared.raw_cell.RawCell.{RawCell}
use Rattle.param_segments.specs.Cells.{is_cell_earlier}
use Rattle.param_segments.proofs.cells.are_sorted.Given as goal

abbrev pub invariant-loop-i : goal.invariant-loop-i
invariant-loop-i l = (k : ℕ) (d : RawCell) → k + 1 < l.i → is_cell_earlier (get_or l.cells (k + 1) d) (get_or l.cells k d) ≡ false
