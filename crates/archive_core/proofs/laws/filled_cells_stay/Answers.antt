use Rattle.archive_core.proofs.Cells.{filled_cells}
use Rattle.archive_core.proofs.laws.filled_cells_stay.Goals as goal

pub returns : goal.returns
returns c = filled_cells
