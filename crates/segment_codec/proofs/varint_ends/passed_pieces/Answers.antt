use Rattle.std.proofs.Common.{◌≡◌, ◌∙◌, ◌-◌, ◌<◌, ◌++◌, ℕ, List, ap, arith}
use Rattle.std.proofs.lemmas.Grind.{common_steps}
use Rattle.std.proofs.lemmas.List.{take-append-drop}
use Rattle.segment_codec.specs.VarintEnds.{behind_ends, ends_in}
use Rattle.segment_codec.proofs.VarintEnds.{piece_passed}
use Rattle.segment_codec.proofs.varint_ends.passed_pieces.Goals as goal

pub loop-rest-preserved : goal.loop-rest-preserved
loop-rest-preserved c =
    let left = c.loop-rest.left in
    let rest = c.loop-rest.rest.now in
    let piece = c.split_at.result.0.now in
    let behind = c.split_at.result.1.now in
    let fewer : c.ends_in.result < left = grind (arith, common_steps) in
    let few : ends_in piece < left = omega (arith, fewer, c.ends_in.ensures.count) in
    let whole : piece ++ behind ≡ rest = rw (c.split_at.ensures.front, c.split_at.ensures.back) (take-append-drop 16 rest) in
    ap (λ (k : ℕ). behind_ends behind (left - k)) (c.from-left.ensures ∙ c.ends_in.ensures.count) ∙ piece_passed piece behind left few ∙ ap (λ (xs : List ℕ). behind_ends xs left) whole ∙ c.loop-rest.invariant
