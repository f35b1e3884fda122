use Rattle.std.proofs.Common.{◌≡◌, ◌∙◌, ◌<◌, ℕ, List, ap, length, map, subst, sym}
use Rattle.std.specs.List.{AllByRecursion, filter_map}
use Rattle.std.proofs.lemmas.Result.{IfOk-weaker}
use Rattle.arch_types.specs.declared.cell.Cell.{Cell}
use Rattle.container_extract.specs.Values.{IsRawValue}
use Rattle.param_segments.specs.Cells.{raw_cell_of, raw_value_of_cell, set_cells, with_eng}
use Rattle.param_segments.specs.Groups.{set_of}
use Rattle.param_segments.specs.Octets.{rows_of_numbered_segment, rows_in_octets}
use Rattle.param_segments.specs.Rows.{SetRow}
use Rattle.param_segments.proofs.Calibrated.{calibrated_are, values_are}
use Rattle.param_segments.proofs.NumberedSegments.{segment_values}
use Rattle.param_segments.proofs.Starts.{length-of_starts, spelled_by}
use Rattle.param_segments.proofs.set.SegSet.cells_in_segment.Goals as goal

pub raw_cells_in_segment-requires : goal.raw_cells_in_segment-requires
raw_cells_in_segment-requires g c =
    let long = length-of_starts c.self.inside.octets c.self.inside.starts.items c.self.invariant in
    let count : length c.deref.result.now ≡ length (set_of c.args.self.now) = ap length c.deref.ensures.value ∙ long ∙ ap (λ (rows : List SetRow). length (set_of rows)) c.self.view_is in
    record {
      spelled = spelled_by _ _ _ _ c.as_slice.ensures c.deref.ensures.value c.self.invariant;
      segment = subst (λ (n : ℕ). c.args.segment < n) (sym count) c.requires.segment;
    }

pub calibrated_cells-requires : goal.calibrated_cells-requires
calibrated_cells-requires g c =
    let q = c.args.parameter in
    let rows = rows_of_numbered_segment c.args.self.now c.args.segment in
    let raw : c.deref-2.result.now ≡ filter_map (raw_cell_of q) rows =
    c.deref-2.ensures.value ∙ c.in_ok-raw.ensures ∙ ap (λ (o : List ℕ). filter_map (raw_cell_of q) (rows_of_numbered_segment (rows_in_octets o) c.args.segment)) c.as_slice.ensures ∙ ap (λ (rs : List SetRow). filter_map (raw_cell_of q) (rows_of_numbered_segment rs c.args.segment)) c.self.view_is in
    subst (AllByRecursion (λ cell. IsRawValue c.args.mdb.now (raw_value_of_cell q cell))) (sym raw) (values_are c.args.mdb.now q rows (segment_values c.args.mdb.now c.args.self.now c.args.segment c.requires.values c.requires.segment))

pub returns-clause-cells : goal.returns-clause-cells
returns-clause-cells g c =
    let q = c.args.parameter in
    let rows = rows_of_numbered_segment c.args.self.now c.args.segment in
    let raw : c.deref-2.result.now ≡ filter_map (raw_cell_of q) rows =
    c.deref-2.ensures.value ∙ c.in_ok-raw.ensures ∙ ap (λ (o : List ℕ). filter_map (raw_cell_of q) (rows_of_numbered_segment (rows_in_octets o) c.args.segment)) c.as_slice.ensures ∙ ap (λ (rs : List SetRow). filter_map (raw_cell_of q) (rows_of_numbered_segment rs c.args.segment)) c.self.view_is in
    IfOk-weaker c.calibrated_cells.result (λ (cells : List Cell). cells ≡ map (with_eng c.args.mdb.now q) c.deref-2.result.now) (λ cells. cells ≡ set_cells c.args.mdb.now q rows)
    (λ cells e. e ∙ ap (map (with_eng c.args.mdb.now q)) raw ∙ calibrated_are c.args.mdb.now q rows (segment_values c.args.mdb.now c.args.self.now c.args.segment c.requires.values c.requires.segment)) c.calibrated_cells.ensures
