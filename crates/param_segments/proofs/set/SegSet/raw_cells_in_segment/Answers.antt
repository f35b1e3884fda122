use Rattle.std.proofs.Common.{◌≡◌, ◌∙◌, ◌<◌, ℕ, List, ap, length, subst, sym}
use Rattle.param_segments.specs.Cells.{set_raw_cells}
use Rattle.param_segments.specs.Groups.{set_of}
use Rattle.param_segments.specs.Octets.{rows_of_numbered_segment, rows_in_octets}
use Rattle.param_segments.specs.Rows.{SetRow}
use Rattle.param_segments.proofs.Starts.{length-of_starts, spelled_by}
use Rattle.param_segments.proofs.set.SegSet.raw_cells_in_segment.Goals as goal

pub raw_cells_in_segment-requires : goal.raw_cells_in_segment-requires
raw_cells_in_segment-requires g c =
    let long = length-of_starts c.self.inside.octets c.self.inside.starts.items c.self.invariant in
    let count : length c.deref.result.now ≡ length (set_of c.args.self.now) = ap length c.deref.ensures.value ∙ long ∙ ap (λ (rows : List SetRow). length (set_of rows)) c.self.view_is in
    record {
      spelled = spelled_by _ _ _ _ c.as_slice.ensures c.deref.ensures.value c.self.invariant;
      segment = subst (λ (n : ℕ). c.args.segment < n) (sym count) c.requires;
    }

pub returns-clause-cells : goal.returns-clause-cells
returns-clause-cells g c =
    let q = c.args.parameter in
    let n = c.args.segment in
    c.from_vec.ensures ∙ c.in_ok-raw.ensures ∙ ap (λ (o : List ℕ). set_raw_cells q (rows_of_numbered_segment (rows_in_octets o) n)) c.as_slice.ensures ∙ ap (λ (rows : List SetRow). set_raw_cells q (rows_of_numbered_segment rows n)) c.self.view_is
