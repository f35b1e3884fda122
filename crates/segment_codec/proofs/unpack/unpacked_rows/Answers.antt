use Rattle.std.proofs.Common.{◌≡◌, ◌∙◌, ◌+◌, ◌*◌, ◌/◌, ◌^◌, ◌≤◌, ◌++◌, ◌∷◌, [], ℕ, sym, ap, subst, arith, rules, length, take, FitsSigned}
use Rattle.std.specs.Prelude.{map}
use Rattle.std.specs.Int.{w128}
use Rattle.std.proofs.Math.Nat.{mul-le-mul_left}
use Rattle.std.proofs.lemmas.Int.{to_z-of_z}
use Rattle.segment_codec.specs.Bits.{number_from_digits}
use Rattle.segment_codec.specs.RawColumn.{value_above}
use Rattle.segment_codec.proofs.Numbers.{gathered_below}
use Rattle.segment_codec.proofs.PackedRows.{none_read, one_read, rows_are}
use Rattle.segment_codec.proofs.unpack.unpacked_rows.Goals as goal

pub loop-init : goal.loop-init
loop-init c = record {
  pending = c.behind_bits.ensures.pending;
  octets = c.behind_bits.ensures.octets;
  len = omega (arith, c.behind_bits.ensures.len, c.split_at.ensures.front_len);
  read = ([], none_read c.args.width _ _ _ _ c.behind_bits.ensures.same.0 _ c.in_ok-values.ensures.items (c.behind_bits.ensures.same.1 ∙ ap (number_from_digits 8) c.split_at.ensures.front));
}

pub take_wide-number-requires-clause-enough : goal.take_wide-number-requires-clause-enough
take_wide-number-requires-clause-enough c =
    let within : c.args.first + c.loop.counter + 1 ≤ c.args.rows = omega arith in
    let room : c.args.width * (c.args.first + c.loop.counter + 1) ≤ c.args.width * c.args.rows = mul-le-mul_left c.args.width within in
    omega (arith, c.loop.invariant.len)

pub loop-preserved : goal.loop-preserved
loop-preserved c =
    let r = c.loop.invariant.read in
    let n = c.take_wide-number.result.0 in
    let fits : FitsSigned w128 c.wrapping_add_unsigned.result = search rules in
    record {
      pending = c.take_wide-number.ensures.pending;
      octets = c.take_wide-number.ensures.octets;
      len = omega (arith, c.take_wide-number.ensures.len, c.loop.invariant.len);
      read = (r.0 ++ n ∷ [], one_read c.args.width _ c.loop.counter _ _ _ _ _ _ _ r.0 n _ r.1 c.take_wide-number.ensures.number (sym c.take_wide-number.ensures.len) c.take_wide-number.ensures.same c.in_ok-push.ensures.items (to_z-of_z w128 c.wrapping_add_unsigned.result fits ∙ c.wrapping_add_unsigned.ensures));
    }

pub returns : goal.returns
returns c = λ numbers after e.
    let i = c.loop.invariant in
    let low_fits : FitsSigned w128 c.args.low = c.ranges.low in
    let r = i.read in
    let are = simp to_z-of_z at r.1 in
    let all : c.loop.counter ≡ c.args.count = omega arith in
    let w = c.args.width in
    let pending = c.loop.pending in
    let rest = c.loop.rest.now in
    let unread = pending.count + 8 * length rest in
    let below = gathered_below pending.bits pending.count rest i.pending.bits i.octets in
    let bits : unread + w * (c.args.first + c.args.count) ≡ 8 * ((w * c.args.rows + 7) / 8) = subst (λ (k : ℕ). unread + w * (c.args.first + k) ≡ 8 * ((w * c.args.rows + 7) / 8)) all i.len in
    let sum = subst (λ (k : ℕ). are.ahead.0 * 2 ^ (w * k + unread) + (number_from_digits w r.0 * 2 ^ unread + (pending.bits * 2 ^ (8 * length rest) + number_from_digits 8 rest)) ≡ number_from_digits 8 (take ((w * c.args.rows + 7) / 8) c.args.octets.now)) all are.ahead.1 in
    let same = rows_are w c.args.rows c.args.first c.args.count c.args.octets.now numbers after r.0 are.ahead.0 unread _ (λ k. omega (arith, c.type_inv.octets k)) e c.requires.within (are.count_is ∙ all) are.below bits below sum in
    c.from_vec.ensures ∙ are.values_are ∙ ap (map (value_above c.args.low)) same
