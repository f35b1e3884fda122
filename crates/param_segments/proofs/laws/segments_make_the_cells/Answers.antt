use Rattle.param_segments.proofs.MergedCells.{segments_make_the_cells, segments_make_the_raw_cells}
use Rattle.param_segments.proofs.laws.segments_make_the_cells.Goals as goal

pub returns-clause-cells : goal.returns-clause-cells
returns-clause-cells c = segments_make_the_cells

pub returns-clause-raw : goal.returns-clause-raw
returns-clause-raw c = segments_make_the_raw_cells
