use Rattle.std.proofs.Common.{ℕ, List, drop, sym, ap, ◌∙◌}
use Rattle.std.proofs.lemmas.List.{take_rest}
use Rattle.ssql_tokens.specs.Lengths.{number_len}
use Rattle.ssql_tokens.proofs.FirstTokens.{no_number}
use Rattle.ssql_tokens.proofs.PlacedTokens.{number_found}
use Rattle.ssql_tokens.proofs.first_token.number_at.Goals as goal

pub returns-in_default : goal.returns-in_default
returns-in_default c =
    let rest = take_rest c.as_slice.result.now c.args.at ∙ ap (λ (xs : List ℕ). drop c.args.at xs) c.as_slice.ensures in
    no_number (drop c.args.at c.args.script.now) c.requires.number (sym (ap number_len rest) ∙ sym c.in_default.ensures.value)

pub returns : goal.returns
returns c =
    let rest = take_rest c.as_slice.result.now c.args.at ∙ ap (λ (xs : List ℕ). drop c.args.at xs) c.as_slice.ensures in
    number_found c.args.script.now c.args.at c.in-Some.len c.in_ok-octets.octets c.requires.number (sym (ap number_len rest) ∙ sym c.in-Some.ensures.value) c.in_ok-octets.ensures
