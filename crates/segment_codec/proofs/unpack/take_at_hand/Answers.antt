use Rattle.std.proofs.Common.{◌∙◌, ◌<◌, ◌-◌, arith}
use Rattle.segment_codec.proofs.Numbers.{high_at, masked_word, small_bits}
use Rattle.segment_codec.proofs.unpack.take_at_hand.Goals as goal

pub overflow_cast-word : goal.overflow_cast-word
overflow_cast-word c = record { fits = small_bits c.args.pending.bits c.args.pending.count c.requires.pending.few c.requires.pending.bits }

pub returns-clause-pending : goal.returns-clause-pending
returns-clause-pending c =
    let s = c.args.pending.count - c.args.width in
    let few : s < 64 = omega (arith, c.requires.pending.few) in
    let m = masked_word c.args.pending.bits s few in
    record { few = few; bits = rw (c.from-bits.ensures, m.0) m.1 }

pub returns-clause-number : goal.returns-clause-number
returns-clause-number c =
    high_at c.args.pending.bits c.args.width (c.args.pending.count - c.args.width) c.args.pending.count (omega (arith, c.requires.enough)) c.requires.pending.bits

pub returns-clause-low : goal.returns-clause-low
returns-clause-low c =
    let s = c.args.pending.count - c.args.width in
    c.from-bits.ensures ∙ (masked_word c.args.pending.bits s (omega (arith, c.requires.pending.few))).0
