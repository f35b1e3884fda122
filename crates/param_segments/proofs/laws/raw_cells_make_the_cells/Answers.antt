use Rattle.param_segments.proofs.MergedCells.{raw_cells_make_the_cells}
use Rattle.param_segments.proofs.laws.raw_cells_make_the_cells.Goals as goal

pub returns : goal.returns
returns c = raw_cells_make_the_cells
