use Rattle.std.proofs.Common.{◌≡◌, ◌∙◌, List, ℕ, length, map, ap, subst, sym}
use Rattle.std.proofs.lemmas.List.{length-map}
use Rattle.segment_codec.specs.Outline.{range_of}
use Rattle.segment_codec.specs.declared.column_range.ColumnRange.{ColumnRange}
use Rattle.param_segments.specs.RowPlaces.{AreRangesOf}
use Rattle.param_segments.proofs.ColumnRanges.{columns_by_ranges, ranges_by_columns}
use Rattle.param_segments.proofs.asking.is_segment_of.Goals as goal

pub are_ranges_of-requires : goal.are_ranges_of-requires
are_ranges_of-requires c =
    ap length c.ranges-2.ensures ∙ length-map c.args.segment.now.columns range_of ∙ c.requires.column_count ∙ sym (ap length c.parameters.ensures)

pub returns : goal.returns
returns c =
    let s = c.args.segment.now in
    let db = c.args.mdb.now in
    let parameters : c.parameters.result.now ≡ s.parameters = c.parameters.ensures in
    let ranges : c.ranges-2.result.now ≡ map range_of s.columns = c.ranges-2.ensures in
    let read : AreRangesOf db c.parameters.result.now c.ranges-2.result.now → AreRangesOf db s.parameters (map range_of s.columns) = λ are.
    subst (λ (rs : List ColumnRange). AreRangesOf db s.parameters rs) ranges (subst (λ (ps : List ℕ). AreRangesOf db ps c.ranges-2.result.now) parameters are) in
    let back : AreRangesOf db s.parameters (map range_of s.columns) → AreRangesOf db c.parameters.result.now c.ranges-2.result.now = λ are.
    subst (λ (ps : List ℕ). AreRangesOf db ps c.ranges-2.result.now) (sym parameters) (subst (λ (rs : List ColumnRange). AreRangesOf db s.parameters rs) (sym ranges) are) in (
      λ e. columns_by_ranges db s c.requires (read (c.are_ranges_of.ensures.0 e)),
      λ of. c.are_ranges_of.ensures.1 (back (ranges_by_columns db s c.requires of)),
    )
