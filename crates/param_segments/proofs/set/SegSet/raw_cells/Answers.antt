use Rattle.std.proofs.Common.{◌∙◌, ap}
use Rattle.param_segments.specs.Cells.{set_raw_cells}
use Rattle.param_segments.specs.Octets.{rows_in_octets}
use Rattle.param_segments.proofs.Starts.{spelled_by}
use Rattle.param_segments.proofs.set.SegSet.raw_cells.Goals as goal

pub raw_cells-requires : goal.raw_cells-requires
raw_cells-requires c = spelled_by _ _ _ _ c.as_slice.ensures c.deref.ensures.value c.self.invariant

pub returns : goal.returns
returns c =
    let q = c.args.parameter in
    c.from_vec.ensures ∙ c.in_ok-raw.ensures ∙ ap (λ o. set_raw_cells q (rows_in_octets o)) c.as_slice.ensures ∙ ap (set_raw_cells q) c.self.view_is
