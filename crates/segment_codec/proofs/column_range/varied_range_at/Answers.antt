use Rattle.std.proofs.Common.{◌≡◌, ◌∙◌, ◌≤◌, ◌-◌, ◌^◌, ℕ, ℤ, pos, Bool, Some, None, cond, subst, ap, sym, arith, rules, FitsSigned, of_z, to_z}
use Rattle.std.specs.Prelude.{◌+ℤ◌, ◌-ℤ◌}
use Rattle.std.specs.Int.{w128}
use Rattle.std.specs.Int.RustNames.{unsigned_abs}
use Rattle.std.proofs.lemmas.Int.{to_z-of_z}
use Rattle.octet_fields.specs.Reading.{mapped_at}
use Rattle.segment_codec.specs.Bits.{packed_at}
use Rattle.segment_codec.specs.Outline.{scanned, value_range}
use Rattle.segment_codec.specs.RawColumn.{bit_len, value_above}
use Rattle.segment_codec.proofs.Columns.{not_false}
use Rattle.segment_codec.proofs.Outlines.{greatest_is, read_range, tight_by}
use Rattle.segment_codec.proofs.column_range.varied_range_at.Goals as goal

pub returns : goal.returns
unfolding bit_len
returns c =
    let low = c.args.low in
    let w = c.in_ok-width.width in
    let kept = c.in_ok-kept.kept in
    let fits : FitsSigned w128 low = c.ranges.low in
    let width : bit_len kept.top ≡ w = omega arith in
    let m = to_z-of_z w128 low fits in
    let le : kept.top ≤ unsigned_abs (pos (2 ^ 127 - 1) -ℤ low) = subst (λ (z : ℤ). kept.top ≤ unsigned_abs (pos (2 ^ 127 - 1) -ℤ z)) m (rw (← c.abs_diff.ensures) c.if-kept-abs_diff.false) in
    let r = c.in_ok-width.rest.now in
    let read : mapped_at scanned (packed_at w c.args.rows) r ≡ Some (kept, c.in_ok-kept.rest.now) =
    sym (ap (λ (n : ℕ). mapped_at scanned (packed_at w n) r) c.from-2.ensures) ∙ sym (ap (λ (k : ℕ). mapped_at scanned (packed_at k c.from-2.result) r) c.from.ensures) ∙ c.in_ok-kept.ensures in
    let tight = tight_by low w kept fits (not_false kept.has_zero c.if-not-kept.false) width le in
    let found = read_range c.args.rows c.args.octets.now r c.in_ok-kept.rest.now low w kept c.in_ok-width.ensures (omega arith) (omega arith) read ∙ ap (λ (b : Bool). cond b (Some (value_range low (low +ℤ pos kept.top), c.in_ok-kept.rest.now)) None) tight in
    let rest = c.in_ok-kept.rest.now in
    let sum = c.wrapping_add_unsigned-greatest.result in
    let sum_fits : FitsSigned w128 sum = search rules in
    let given : to_z w128 (of_z w128 sum) ≡ value_above (to_z w128 (of_z w128 low)) kept.top = to_z-of_z w128 sum sum_fits ∙ c.wrapping_add_unsigned-greatest.ensures in
    let most : to_z w128 (of_z w128 sum) ≡ low +ℤ pos kept.top = given ∙ ap (λ (z : ℤ). value_above z kept.top) m ∙ greatest_is low kept.top fits le in
    found ∙ ap (λ (z : ℤ). Some (value_range z (low +ℤ pos kept.top), rest)) (sym m) ∙ ap (λ (z : ℤ). Some (value_range (to_z w128 (of_z w128 low)) z, rest)) (sym most)
