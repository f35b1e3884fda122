use Rattle.std.proofs.Common.{◌≡◌, ◌∙◌, ◌≤◌, ◌-◌, ◌^◌, ℕ, ℤ, pos, Bool, Some, None, cond, subst, ap, rules, arith, FitsSigned}
use Rattle.std.specs.Prelude.{◌-ℤ◌}
use Rattle.std.specs.Int.{w128}
use Rattle.std.specs.Int.RustNames.{unsigned_abs}
use Rattle.std.proofs.lemmas.Int.{to_z-of_z}
use Rattle.octet_fields.specs.Reading.{mapped_at}
use Rattle.segment_codec.specs.Bits.{packed_at}
use Rattle.segment_codec.specs.RawColumn.{bit_len, unpacked}
use Rattle.segment_codec.proofs.Columns.{not_false, read_varied, tight_as}
use Rattle.segment_codec.proofs.raw_column.varied_at.Goals as goal

pub returns : goal.returns
unfolding bit_len
returns c =
    let low = c.in_ok-low.low in
    let w = c.in_ok-width.width in
    let kept = c.in_ok-kept.kept in
    let fits : FitsSigned w128 low = search rules in
    let width : bit_len kept.top ≡ w = omega arith in
    let m = to_z-of_z w128 low fits in
    let le : kept.top ≤ unsigned_abs (pos (2 ^ 127 - 1) -ℤ low) = subst (λ (z : ℤ). kept.top ≤ unsigned_abs (pos (2 ^ 127 - 1) -ℤ z)) m (rw (← c.abs_diff.ensures) c.if-kept-abs_diff.false) in
    let read : mapped_at (unpacked low) (packed_at w c.args.rows) c.in_ok-width.rest.now ≡ Some (kept, c.in_ok-kept.rest.now) =
    subst (λ (k : ℕ). mapped_at (unpacked low) (packed_at k c.args.rows) c.in_ok-width.rest.now ≡ Some (kept, c.in_ok-kept.rest.now)) c.from.ensures (simp to_z-of_z at c.in_ok-kept.ensures) in
    read_varied c.args.rows c.args.octets.now c.in_ok-low.rest.now c.in_ok-width.rest.now c.in_ok-kept.rest.now low w kept fits c.in_ok-low.ensures c.in_ok-width.ensures (omega arith) (omega arith) read
    ∙ ap (λ (b : Bool). cond b (Some (kept.values, c.in_ok-kept.rest.now)) None) (tight_as low w kept fits (not_false kept.has_zero c.if-not-kept.false) width le)
