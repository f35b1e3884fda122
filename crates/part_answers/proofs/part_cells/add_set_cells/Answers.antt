use Rattle.std.proofs.Common.{◌∙◌, ◌++◌, List, ap}
use Rattle.std.specs.Prelude.{filter}
use Rattle.arch_types.specs.Directions.{in_direction}
use Rattle.arch_types.specs.declared.cell.Cell.{Cell}
use Rattle.param_segments.specs.CellRange.{is_cell_in_range}
use Rattle.param_segments.specs.Cells.{set_cells}
use Rattle.part_answers.specs.PartCells.{limit_left}
use Rattle.part_answers.proofs.Limited.{within_room}
use Rattle.part_answers.proofs.Timely.{range_asks}
use Rattle.part_answers.proofs.part_cells.add_set_cells.Goals as goal

pub returns : goal.returns
returns c =
    let request = c.args.request.now in
    let cells = c.args.cells.now in
    let db = c.args.mdb.now in
    let rows = c.args.set.now in
    let range = c.range_left-range.ensures in
    let here = in_direction c.args.direction (filter (is_cell_in_range request.from request.to) (set_cells db c.args.number rows)) in
    let found = c.in_ok-found.ensures ∙ range_asks db c.args.number c.range_left-range.result request.from request.to c.args.direction (limit_left request.limit cells) rows range.from range.to range.direction range.limit in
    c.in_ok-extend_from_slice.ensures.added ∙ ap (λ (l : List Cell). cells ++ l) (c.as_slice.ensures ∙ found) ∙ within_room request.limit cells here c.requires.within
