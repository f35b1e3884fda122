use Rattle.std.proofs.Common.{◌≡◌, ◌∙◌, List, ap, map, subst, sym}
use Rattle.std.specs.List.{AllByRecursion}
use Rattle.std.proofs.lemmas.Result.{IfOk-weaker}
use Rattle.arch_types.specs.declared.cell.Cell.{Cell}
use Rattle.container_extract.specs.Values.{IsRawValue}
use Rattle.param_segments.specs.CellRange.{as_range_asks, cells_in_range, raw_cells_in_range}
use Rattle.param_segments.specs.Cells.{raw_value_of_cell, with_eng}
use Rattle.param_segments.specs.Octets.{rows_in_octets}
use Rattle.param_segments.proofs.AskedCells.{asked_are, asked_values}
use Rattle.param_segments.proofs.Starts.{spelled_by}
use Rattle.param_segments.proofs.set.SegSet.cells_in_range.Goals as goal

pub range_cells-requires : goal.range_cells-requires
range_cells-requires c = spelled_by _ _ _ _ c.as_slice.ensures c.deref.ensures.value c.self.invariant

pub calibrated_cells-requires : goal.calibrated_cells-requires
calibrated_cells-requires c =
    let q = c.args.parameter in
    let range = c.args.range in
    let raw : c.deref-2.result.now ≡ as_range_asks range (raw_cells_in_range q range.from range.to c.args.self.now) =
    c.deref-2.ensures.value ∙ c.in_ok-raw.ensures ∙ ap (λ o. as_range_asks range (raw_cells_in_range q range.from range.to (rows_in_octets o))) c.as_slice.ensures ∙ ap (λ rows. as_range_asks range (raw_cells_in_range q range.from range.to rows)) c.self.view_is in
    subst (AllByRecursion (λ cell. IsRawValue c.args.mdb.now (raw_value_of_cell q cell))) (sym raw) (asked_values c.args.mdb.now q range c.args.self.now c.requires)

pub returns : goal.returns
returns c =
    let q = c.args.parameter in
    let range = c.args.range in
    let raw : c.deref-2.result.now ≡ as_range_asks range (raw_cells_in_range q range.from range.to c.args.self.now) =
    c.deref-2.ensures.value ∙ c.in_ok-raw.ensures ∙ ap (λ o. as_range_asks range (raw_cells_in_range q range.from range.to (rows_in_octets o))) c.as_slice.ensures ∙ ap (λ rows. as_range_asks range (raw_cells_in_range q range.from range.to rows)) c.self.view_is in
    IfOk-weaker c.calibrated_cells.result (λ (cells : List Cell). cells ≡ map (with_eng c.args.mdb.now q) c.deref-2.result.now) (λ cells. cells ≡ cells_in_range c.args.mdb.now q range c.args.self.now)
    (λ cells e. e ∙ ap (map (with_eng c.args.mdb.now q)) raw ∙ asked_are c.args.mdb.now q range c.args.self.now c.requires) c.calibrated_cells.ensures
