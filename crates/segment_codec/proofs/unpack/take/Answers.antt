use Rattle.std.proofs.Common.{◌<◌, ◌-◌, ◌^◌, ◌/◌, ◌∙◌, arith, length}
use Rattle.segment_codec.specs.Bits.{number_from_digits}
use Rattle.segment_codec.proofs.Numbers.{cut_same, below_word, high_at, masked}
use Rattle.segment_codec.proofs.unpack.take.Goals as goal

pub overflow_cast-result : goal.overflow_cast-result
overflow_cast-result c =
    let t = c.refill.result.0.bits in
    let w = c.args.width in
    let s = c.refill.result.0.count - w in
    record { fits = below_word (t / 2 ^ s) w (high_at t w s c.refill.result.0.count (omega arith) c.refill.ensures.bits) c.requires.width }

pub returns-clause-pending : goal.returns-clause-pending
returns-clause-pending c =
    let t = c.refill.result.0.bits in
    let s = c.refill.result.0.count - c.args.width in
    let few : s < 64 = omega arith in
    let m = masked t s few in
    record { few = few; bits = rw m.0 m.1 }

pub returns-clause-number : goal.returns-clause-number
returns-clause-number c =
    let t = c.refill.result.0.bits in
    let w = c.args.width in
    high_at t w (c.refill.result.0.count - w) c.refill.result.0.count (omega arith) c.refill.ensures.bits

pub returns-clause-same : goal.returns-clause-same
returns-clause-same c =
    let t = c.refill.result.0.bits in
    let s = c.refill.result.0.count - c.args.width in
    rw (masked t s (omega arith)).0 (cut_same t s (length c.refill.result.1.now) (number_from_digits 8 c.refill.result.1.now) ∙ c.refill.ensures.same)

pub returns-then-width-pending-clause-same : goal.returns-then-width-pending-clause-same
returns-then-width-pending-clause-same c =
    rw (c.take_at_hand-number.ensures.high, c.take_at_hand-number.ensures.low)
    (cut_same c.args.pending.bits c.take_at_hand-number.result.1.count (length c.args.rest.now) (number_from_digits 8 c.args.rest.now))

pub returns-then-width-pending-clause-octets : goal.returns-then-width-pending-clause-octets
returns-then-width-pending-clause-octets c = λ i. omega (arith, c.type_inv.rest i)
