use Rattle.std.proofs.Common.{sym, refl, ap, subst, ◌∙◌, arith, take, drop, length}
use Rattle.std.proofs.lemmas.List.{take-append-drop, nil_from_length}
use Rattle.octet_fields.specs.Exact.{IsOctets}
use Rattle.segment_codec.specs.Bits.{number_from_digits}
use Rattle.segment_codec.proofs.Numbers.{word_ahead, word_below, gathered_below, small_bits, tail_same}
use Rattle.segment_codec.proofs.Leaves.{IsOctets-drop, IsOctets-take}
use Rattle.segment_codec.proofs.unpack.refill.Goals as goal

pub gather-bits-requires-clause-bits : goal.gather-bits-requires-clause-bits
gather-bits-requires-clause-bits c = small_bits c.args.pending.bits c.args.pending.count c.requires.pending.few c.requires.pending.bits

pub returns-then-rest-lt8-clause-bits : goal.returns-then-rest-lt8-clause-bits
returns-then-rest-lt8-clause-bits c = rw c.gather-bits.ensures (gathered_below c.args.pending.bits c.args.pending.count c.args.rest.now c.requires.pending.bits (λ i. omega (arith, c.type_inv.rest i)))

pub returns-then-rest-lt8-clause-same : goal.returns-then-rest-lt8-clause-same
returns-then-rest-lt8-clause-same c = tail_same c.gather-bits.result c.args.pending.bits (number_from_digits 8 c.args.rest.now) (length c.args.rest.now) c.split_at.result.1.now (nil_from_length c.split_at.result.1.now (omega (arith, c.split_at.ensures.back_len))) c.gather-bits.ensures

pub returns-clause-bits : goal.returns-clause-bits
returns-clause-bits c =
    let b = word_below c.args.pending.bits c.args.pending.count c.from.result c.requires.pending.few c.requires.pending.bits (omega (arith, c.from.ensures, c.from_be_bytes-word.type_inv)) in
    rw b.0 b.1

pub returns-clause-same : goal.returns-clause-same
returns-clause-same c =
    let b = word_below c.args.pending.bits c.args.pending.count c.from.result c.requires.pending.few c.requires.pending.bits (omega (arith, c.from.ensures, c.from_be_bytes-word.type_inv)) in
    let rest = c.args.rest.now in
    rw (b.0, c.split_at-2.ensures.back) (word_ahead c.args.pending.bits c.from.result rest (take 8 rest) (drop 8 rest) (sym (take-append-drop 8 rest)) (sym (ap length c.split_at-2.ensures.front) ∙ c.split_at-2.ensures.front_len) (c.from.ensures ∙ c.from_be_bytes-word.ensures ∙ rw c.split_at-2.ensures.front refl) (IsOctets-take 8 rest (λ i. omega (arith, c.type_inv.rest i))))

pub returns-then-rest-lt8-clause-octets : goal.returns-then-rest-lt8-clause-octets
returns-then-rest-lt8-clause-octets c = subst IsOctets (sym c.split_at.ensures.back) (IsOctets-drop _ c.args.rest.now (λ i. omega (arith, c.type_inv.rest i)))

pub returns-clause-octets : goal.returns-clause-octets
returns-clause-octets c = subst IsOctets (sym c.split_at-2.ensures.back) (IsOctets-drop 8 c.args.rest.now (λ i. omega (arith, c.type_inv.rest i)))

pub returns-then-width-pending-clause-octets : goal.returns-then-width-pending-clause-octets
returns-then-width-pending-clause-octets c = λ i. omega (arith, c.type_inv.rest i)
