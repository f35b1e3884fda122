use Rattle.std.proofs.Common.{◌≡◌, ℕ, eqb, length, ap, ◌∙◌, arith}
use Rattle.std.proofs.lemmas.List.Filters.{dedup_is}
use Rattle.segment_codec.proofs.Distinct.{sorted_tells}
use Rattle.segment_codec.proofs.parameters.are_distinct.Goals as goal

pub returns : goal.returns
returns c =
    let numbers = c.args.numbers.now in
    let same = rw c.in_ok-sorted.ensures.items at c.sort_unstable.ensures.permutation in
    let len : c.len.result ≡ length c.dedup.new.self.items = omega (arith, c.len.ensures, c.dedup.new.self.ok.0) in
    ap (λ (n : ℕ). eqb n (length numbers)) len ∙ sorted_tells numbers _ _ same c.sort_unstable.ensures.sorted (dedup_is _ _ _ c.dedup.ensures.filtered)
