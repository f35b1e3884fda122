use Rattle.archive_core.proofs.Cells.{below}
use Rattle.archive_core.proofs.laws.cells_are_those_below.Goals as goal

pub returns : goal.returns
returns c = below
