use Rattle.std.proofs.Common.{arith}
use Rattle.segment_codec.proofs.Numbers.{joined, kept}
use Rattle.segment_codec.proofs.bits.put.Goals as goal

pub returns-then-count-lt64-clause-pending : goal.returns-then-count-lt64-clause-pending
returns-then-count-lt64-clause-pending c =
    let j = joined c.args.pending.bits c.args.number c.args.pending.count c.args.width c.requires.pending.few c.requires.pending.bits c.requires.width c.requires.number in
    record { few = omega arith; bits = rw (c.from-bits.ensures, c.joined_word.ensures) j.1 }

pub returns-then-count-lt64-clause-written : goal.returns-then-count-lt64-clause-written
returns-then-count-lt64-clause-written c = rw (c.from-bits.ensures, c.joined_word.ensures) (kept c.args.out.now.items c.args.pending.bits c.args.number c.args.pending.count c.args.width)
