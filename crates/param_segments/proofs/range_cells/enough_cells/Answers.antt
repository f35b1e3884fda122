use Rattle.std.proofs.Common.{◌≡◌}
use Rattle.std.specs.Prelude.{flat_map}
use Rattle.std.proofs.lemmas.Result.{IfOk-weaker}
use Rattle.param_segments.specs.CellRange.{GivesFirst, raw_cells_in_range, segment_cells_asked}
use Rattle.param_segments.specs.Groups.{set_of}
use Rattle.param_segments.specs.Octets.{rows_in_octets}
use Rattle.param_segments.proofs.GatheredCells.{all_given}
use Rattle.param_segments.proofs.range_cells.enough_cells.Goals as goal

pub returns-in-None : goal.returns-in-None
returns-in-None c =
    let rows = rows_in_octets c.args.octets.now in
    let r = c.args.range in
    IfOk-weaker c.gathered_range_cells.result (λ cells. cells.items ≡ flat_map (segment_cells_asked c.args.parameter r) (set_of rows)) (λ cells. GivesFirst r.direction r.limit cells.items (raw_cells_in_range c.args.parameter r.from r.to rows))
    (λ cells is. all_given r.direction r.limit c.args.parameter r.from r.to rows cells.items c.in-None.is c.requires.rows is) c.gathered_range_cells.ensures
