use Rattle.param_segments.proofs.MergedCells.{segment_cells_rise}
use Rattle.param_segments.proofs.laws.segment_cells_rise.Goals as goal

pub returns : goal.returns
returns c = segment_cells_rise
