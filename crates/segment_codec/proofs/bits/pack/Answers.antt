use Rattle.std.proofs.Common.{◌≡◌, ◌+◌, ◌*◌, ◌<◌, ◌^◌, ℕ, ℤ, pos, sym, subst, ap, ◌∙◌, arith, rules, length, take, take_all, get_or, FitsSigned}
use Rattle.std.specs.Int.{w128}
use Rattle.std.proofs.lemmas.Int.{to_z-of_z}
use Rattle.segment_codec.specs.Bits.{number_from_digits}
use Rattle.segment_codec.specs.Pending.{written_number}
use Rattle.segment_codec.specs.RawColumn.{offsets_from}
use Rattle.segment_codec.proofs.Columns.{length-offsets}
use Rattle.segment_codec.proofs.Numbers.{number_from_digits-nil, pack_more, is_packed}
use Rattle.segment_codec.proofs.Written.{offset_at, offset_below}
use Rattle.segment_codec.proofs.bits.pack.Goals as goal

pub put_wide-requires-clause-number : goal.put_wide-requires-clause-number
put_wide-requires-clause-number c =
    let i = c.loop-value.value-index in
    let values = c.args.values.now in
    let fits : FitsSigned w128 (get_or values i (pos 0)) = search rules in
    let low_fits : FitsSigned w128 c.args.low = c.ranges.low in
    let offset = simp to_z-of_z at c.abs_diff.ensures in
    subst (λ (d : ℕ). d < 2 ^ c.args.width) (sym offset) (offset_below c.args.width c.args.low values i c.requires.offsets c.loop-value-test.true)

pub loop-value-init : goal.loop-value-init
loop-value-init c = record { pending = record { few = omega arith; bits = omega arith }; len = rw c.in_ok-out.ensures.items (omega arith); written = rw c.in_ok-out.ensures.items (omega (arith, number_from_digits-nil 8, number_from_digits-nil c.args.width)) }

pub loop-value-preserved : goal.loop-value-preserved
loop-value-preserved c =
    let i = c.loop-value.value-index in
    let values = c.args.values.now in
    let fits : FitsSigned w128 (get_or values i (pos 0)) = search rules in
    let low_fits : FitsSigned w128 c.args.low = c.ranges.low in
    let offset = simp to_z-of_z at c.abs_diff.ensures in
    let so_far = simp to_z-of_z at c.loop-value.invariant.written in
    let lt : i < length (offsets_from c.args.low values) = rw (length-offsets c.args.low values) c.loop-value-test.true in
    record {
      pending = c.in_ok-pending.ensures.pending;
      len = omega (arith, c.in_ok-pending.ensures.len, c.loop-value.invariant.len);
      written = subst (λ (z : ℤ). written_number c.put_wide.new.out.items c.in_ok-pending.pending ≡ number_from_digits c.args.width (take (i + 1) (offsets_from z values))) (sym (to_z-of_z w128 c.args.low low_fits)) (c.in_ok-pending.ensures.written ∙ pack_more c.args.width i (offsets_from c.args.low values) _ _ (offset ∙ sym (offset_at c.args.low values i c.loop-value-test.true)) lt so_far);
    }

pub returns : goal.returns
returns c =
    let i = c.loop-value.value-index in
    let values = c.args.values.now in
    let low_fits : FitsSigned w128 c.args.low = c.ranges.low in
    let numbers = offsets_from c.args.low values in
    let so_far = simp to_z-of_z at c.loop-value.invariant.written in
    let count = length-offsets c.args.low values in
    let all = take_all i numbers (rw count c.loop-value-test.false) in
    let end : i ≡ length numbers = omega (arith, count) in
    is_packed c.args.width numbers c.loop-value.out.items c.finish.new.out.items c.loop-value.pending.count c.loop-value.pending.bits c.in_ok-finish.ensures.octets (subst (λ (j : ℕ). 8 * length c.loop-value.out.items + c.loop-value.pending.count ≡ c.args.width * j) end c.loop-value.invariant.len) c.in_ok-finish.ensures.len (so_far ∙ ap (number_from_digits c.args.width) all) c.in_ok-finish.ensures.written
