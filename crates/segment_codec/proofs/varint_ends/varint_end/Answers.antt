use Rattle.std.proofs.Common.{◌∙◌, List, ℕ, sym, ap, arith}
use Rattle.std.proofs.lemmas.List.Quantifiers.{position-Some}
use Rattle.segment_codec.specs.VarintEnds.{behind_ends}
use Rattle.segment_codec.proofs.VarintEnds.{end_at}
use Rattle.segment_codec.proofs.varint_ends.varint_end.Goals as goal

pub split_at-requires : goal.split_at-requires
split_at-requires c = let inside = (position-Some _ c.args.octets.now c.in-Some.last 0 (sym c.last_octet.ensures ∙ c.in-Some.is)).0 in omega (arith, inside)

pub returns : goal.returns
returns c = λ n after e.
    ap (λ (xs : List ℕ). behind_ends xs n) c.split_at.ensures.back ∙ sym (end_at c.args.octets.now c.in-Some.last n (sym c.last_octet.ensures ∙ c.in-Some.is)) ∙ e
