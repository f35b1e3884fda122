use Rattle.std.proofs.Common.{◌∙◌, ◌++◌, List, ap}
use Rattle.param_segments.specs.declared.raw_cell.RawCell.{RawCell}
use Rattle.param_segments.specs.Cells.{segment_cells}
use Rattle.param_segments.proofs.SegmentCells.{segment_is_cells}
use Rattle.param_segments.proofs.Starts.{at_start, segment_number}
use Rattle.param_segments.proofs.cells.raw_cells_in_segment.Goals as goal

pub put_segment_cells-requires : goal.put_segment_cells-requires
put_segment_cells-requires c = (segment_number c.args.octets.now c.args.segment, at_start c.args.octets.now c.args.starts.now c.args.segment c.requires.spelled c.requires.segment)

pub returns : goal.returns
returns c =
    let s = segment_number c.args.octets.now c.args.segment in
    let has = at_start c.args.octets.now c.args.starts.now c.args.segment c.requires.spelled c.requires.segment in
    c.in_ok-put_segment_cells.ensures s has ∙ ap (λ (cells : List RawCell). cells ++ segment_cells c.args.parameter s) c.new-cells.ensures.items ∙ segment_is_cells c.args.parameter s has.0
