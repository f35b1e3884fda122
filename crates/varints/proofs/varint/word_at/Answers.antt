use Rattle.std.proofs.Common.{get_or, ap, ◌∙◌, arith}
use Rattle.varints.specs.Varint.{varint_at}
use Rattle.varints.proofs.Varints.{octet_next, short_of, first_small}
use Rattle.varints.proofs.varint.word_at.Goals as goal

pub returns-then-octets-lt128 : goal.returns-then-octets-lt128
returns-then-octets-lt128 c =
    let octets = c.args.octets.now in
    let first = get_or octets 0 0 in
    rw (c.from.ensures, c.split_at.ensures.back) (short_of octets first _ (ap varint_at (octet_next octets 0 (omega arith)) ∙ first_small first _ (omega arith)) (omega arith))
