use Rattle.std.proofs.Common.{◌+◌, ◌-◌, ◌/◌, refl, arith}
use Rattle.std.specs.Int.Bits.{bit_and, bit_xor}
use Rattle.std.specs.Int.Count.{count_trailing_zeros}
use Rattle.varints.proofs.Varints.{short_of}
use Rattle.varints.proofs.Words.{IsSpelled, word_spelled}
use Rattle.varints.proofs.varint.spelled_word_at.Goals as goal

pub split_at-requires : goal.split_at-requires
split_at-requires c =
    let octets = c.args.octets.now in
    let mask = bit_xor c.ends-found.result (c.ends-found.result - 1) in
    let made : IsSpelled octets _ (bit_and c.in-Some.front mask) mask (count_trailing_zeros 64 c.ends-found.result / 8 + 1) =
    word_spelled octets c.in-Some.front c.ends-found.result _ (λ i. omega (arith, c.type_inv.octets i)) c.in-Some.ensures.enough c.in-Some.ensures.word c.ends-found.ensures (omega arith) c.if-word-mask.false refl in
    omega (arith, made.short)

pub invariant_of-result : goal.invariant_of-result
invariant_of-result c =
    let octets = c.args.octets.now in
    let made = word_spelled octets c.in-Some.front c.ends-found.result c.joined-number.result (λ i. omega (arith, c.type_inv.octets i)) c.in-Some.ensures.enough c.in-Some.ensures.word c.ends-found.ensures (omega arith) c.if-word-mask.false c.joined-number.ensures in
    record { short = made.short; whole = made.whole; spelled = made.spelled }

pub returns : goal.returns
returns c =
    let octets = c.args.octets.now in
    let made = word_spelled octets c.in-Some.front c.ends-found.result c.joined-number.result (λ i. omega (arith, c.type_inv.octets i)) c.in-Some.ensures.enough c.in-Some.ensures.word c.ends-found.ensures (omega arith) c.if-word-mask.false c.joined-number.ensures in
    rw c.split_at.ensures.back (short_of octets c.joined-number.result _ made.read (omega arith))
