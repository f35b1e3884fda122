use Rattle.std.proofs.Common.{refl}
use Rattle.segment_codec.specs.Bits.{octet_count}
use Rattle.segment_codec.proofs.Numbers.{last_octets, filled, shifted, octets_of}
use Rattle.segment_codec.proofs.bits.finish.Goals as goal

pub overflow_cast-word-2 : goal.overflow_cast-word-2
overflow_cast-word-2 c = record { fits = (shifted c.args.pending.bits c.args.pending.count c.requires.few c.requires.bits).1 }

pub returns-clause-written : goal.returns-clause-written
returns-clause-written c =
    let b = c.args.pending.bits in
    let n = c.args.pending.count in
    let whole = (shifted b n c.requires.few c.requires.bits).0 in
    let front = last_octets b n (octet_count n) c.requires.few c.requires.bits refl in
    rw c.in_ok-extend_from_slice.ensures.items (filled c.args.out.now.items c.split_at.result.0.now b n c.split_at.ensures.front_len (rw (c.split_at.ensures.front, c.as_slice.ensures, c.to_be_bytes-octets.ensures, whole) front))

pub returns-clause-octets : goal.returns-clause-octets
returns-clause-octets c = octets_of c.extend_from_slice.new.self.items c.type_inv.out
