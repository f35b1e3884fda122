use Rattle.archive_core.proofs.Cells.{of_rows}
use Rattle.archive_core.proofs.laws.cells_are_of_rows.Goals as goal

pub returns : goal.returns
returns c = of_rows
