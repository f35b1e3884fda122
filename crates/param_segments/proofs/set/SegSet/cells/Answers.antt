use Rattle.std.proofs.Common.{◌≡◌, ◌∙◌, List, ap, sym, subst, map}
use Rattle.std.specs.List.{AllByRecursion, filter_map}
use Rattle.std.proofs.lemmas.Result.{IfOk-weaker}
use Rattle.arch_types.specs.declared.cell.Cell.{Cell}
use Rattle.container_extract.specs.Values.{IsRawValue}
use Rattle.param_segments.specs.Cells.{raw_cell_of, raw_value_of_cell, set_cells, with_eng}
use Rattle.param_segments.specs.Octets.{rows_in_octets}
use Rattle.param_segments.proofs.Calibrated.{calibrated_are, values_are}
use Rattle.param_segments.proofs.Starts.{spelled_by}
use Rattle.param_segments.proofs.set.SegSet.cells.Goals as goal

pub raw_cells-requires : goal.raw_cells-requires
raw_cells-requires c = spelled_by _ _ _ _ c.as_slice.ensures c.deref.ensures.value c.self.invariant

pub calibrated_cells-requires : goal.calibrated_cells-requires
calibrated_cells-requires c =
    let q = c.args.parameter in
    let raw : c.deref-2.result.now ≡ filter_map (raw_cell_of q) c.args.self.now = c.deref-2.ensures.value ∙ c.in_ok-raw.ensures ∙ ap (λ o. filter_map (raw_cell_of q) (rows_in_octets o)) c.as_slice.ensures ∙ ap (filter_map (raw_cell_of q)) c.self.view_is in
    subst (AllByRecursion (λ cell. IsRawValue c.args.mdb.now (raw_value_of_cell q cell))) (sym raw) (values_are c.args.mdb.now q c.args.self.now c.requires)

pub returns : goal.returns
returns c =
    let q = c.args.parameter in
    let raw : c.deref-2.result.now ≡ filter_map (raw_cell_of q) c.args.self.now = c.deref-2.ensures.value ∙ c.in_ok-raw.ensures ∙ ap (λ o. filter_map (raw_cell_of q) (rows_in_octets o)) c.as_slice.ensures ∙ ap (filter_map (raw_cell_of q)) c.self.view_is in
    IfOk-weaker c.calibrated_cells.result (λ (cells : List Cell). cells ≡ map (with_eng c.args.mdb.now q) c.deref-2.result.now) (λ cells. cells ≡ set_cells c.args.mdb.now q c.args.self.now)
    (λ cells e. e ∙ ap (map (with_eng c.args.mdb.now q)) raw ∙ calibrated_are c.args.mdb.now q c.args.self.now c.requires) c.calibrated_cells.ensures
