use Rattle.std.proofs.Common.{◌+◌, ℕ, List, drop, slice_range, sym, ap, ◌∙◌}
use Rattle.std.proofs.lemmas.List.{take_rest}
use Rattle.ssql_tokens.specs.Lengths.{string_len}
use Rattle.ssql_tokens.specs.TokenTexts.{unquoted}
use Rattle.ssql_tokens.proofs.PlacedTokens.{string_found, string_lost}
use Rattle.ssql_tokens.proofs.first_token.string_at.Goals as goal

pub returns-in_default : goal.returns-in_default
returns-in_default c =
    let rest = take_rest c.as_slice.result.now (c.args.at + 1) ∙ ap (λ (xs : List ℕ). drop (c.args.at + 1) xs) c.as_slice.ensures in
    string_lost c.args.script.now c.args.at c.requires.quote (sym (ap string_len rest) ∙ sym c.in_default.ensures.value)

pub returns : goal.returns
returns c =
    let rest = take_rest c.as_slice.result.now (c.args.at + 1) ∙ ap (λ (xs : List ℕ). drop (c.args.at + 1) xs) c.as_slice.ensures in
    let inside = ap (λ (xs : List ℕ). unquoted (slice_range xs (c.args.at + 1) (c.args.at + 1 + c.in-Some.len))) c.as_slice-2.ensures in
    string_found c.args.script.now c.args.at c.in-Some.len c.in_ok-octets.octets c.requires.quote (sym (ap string_len rest) ∙ sym c.in-Some.ensures.value) (c.in_ok-octets.ensures ∙ inside)
