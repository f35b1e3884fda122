use Rattle.std.proofs.Common.{◌≡◌, ℕ, ◌<◌, ◌^◌, ap, sym, ◌∙◌, rules, arith}
use Rattle.std.specs.Int.Bits.{bit_and}
use Rattle.varints.specs.Words.{little_endian}
use Rattle.varints.proofs.Words.{spelled_reads}
use Rattle.varints.proofs.varint.Spelling.behind.Goals as goal

pub returns : goal.returns
returns c =
    let own = c.args.self in
    let octets = c.args.octets.now in
    let small : c.args.self.number < 2 ^ 64 = search rules in
    let long = c.in_ok-front.ensures.enough in
    let same : bit_and (little_endian 8 octets) own.mask ≡ own.word = sym (ap (λ (w : ℕ). bit_and w own.mask) c.in_ok-front.ensures.word) ∙ c.if-front-self.false in
    rw c.split_at.ensures.back (spelled_reads octets own.number own.word own.mask own.len (λ i. omega (arith, c.type_inv.octets i)) long own.short own.whole own.spelled small same)
