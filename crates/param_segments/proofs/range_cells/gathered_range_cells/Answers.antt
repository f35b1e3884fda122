use Rattle.param_segments.specs.CellRange.{segment_cells_asked}
use Rattle.param_segments.proofs.Starts.{cells_done, cells_more}
use Rattle.param_segments.proofs.range_cells.gathered_range_cells.Goals as goal

pub loop-number-preserved : goal.loop-number-preserved
loop-number-preserved c =
    cells_more (segment_cells_asked c.args.parameter c.args.range) c.args.octets.now c.args.starts.now c.loop-number.number c.loop-number.cells.items c.put_numbered_cells.new.cells.items c.requires c.loop-number-test.true
    c.in_ok-put_numbered_cells.ensures c.loop-number.invariant

pub returns : goal.returns
returns c =
    cells_done (segment_cells_asked c.args.parameter c.args.range) c.args.octets.now c.args.starts.now c.loop-number.number c.loop-number.cells.items c.requires c.loop-number-test.false c.loop-number.invariant
