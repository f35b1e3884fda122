use Rattle.std.proofs.Common.{◌≡◌, ℕ, List, [], ◌∷◌, ◌++◌, refl, ap, ◌∙◌}
use Rattle.ssql_tokens.specs.declared.token.Token.TheVariants as t
use Rattle.ssql_tokens.specs.Written.{quotes_doubled, token_text}
use Rattle.ssql_parse.proofs.PrintedParts.{word_text}
use Rattle.ssql_parse.proofs.printing.Layout.quoted.Goals as goal

pub returns : goal.returns
returns c =
    let octets : c.as_slice-2.result.now ≡ token_text (t.Quoted c.args.text.now) =
    c.as_slice-2.ensures.value ∙ c.in_ok-doubled.ensures ∙ ap (λ (xs : List ℕ). 39 ∷ (quotes_doubled xs ++ 39 ∷ [])) c.as_slice.ensures in
    let laid_so = word_text c.args.self.now (t.Quoted c.args.text.now) c.as_slice-2.result.now octets refl refl in
    let view = c.self.view_is in
    cc (c.in_ok-word.ensures)
