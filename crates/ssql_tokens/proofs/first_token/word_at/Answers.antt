use Rattle.std.proofs.Common.{ℕ, List, drop, sym, ap, ◌∙◌}
use Rattle.std.proofs.lemmas.List.{take_rest}
use Rattle.ssql_tokens.specs.Lengths.{word_len}
use Rattle.ssql_tokens.proofs.PlacedTokens.{word_found, word_lost}
use Rattle.ssql_tokens.proofs.first_token.word_at.Goals as goal

pub returns-in-None : goal.returns-in-None
returns-in-None c =
    let rest = take_rest c.as_slice.result.now c.args.at ∙ ap (λ (xs : List ℕ). drop c.args.at xs) c.as_slice.ensures in
    absurd (word_lost c.args.script.now c.args.at c.word_len-len.result c.in_ok-octets.octets c.requires.letter (c.word_len-len.ensures.value ∙ ap word_len rest) c.in_ok-octets.ensures (sym c.in-None.ensures))

pub returns-in-Some : goal.returns-in-Some
returns-in-Some c =
    let rest = take_rest c.as_slice.result.now c.args.at ∙ ap (λ (xs : List ℕ). drop c.args.at xs) c.as_slice.ensures in
    word_found c.args.script.now c.args.at c.word_len-len.result c.in_ok-octets.octets c.in-Some.token c.requires.letter (c.word_len-len.ensures.value ∙ ap word_len rest) c.in_ok-octets.ensures (sym c.in-Some.ensures)
