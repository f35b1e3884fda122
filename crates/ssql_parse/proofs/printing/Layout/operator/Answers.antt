use Rattle.std.proofs.Common.{refl, ◌∙◌}
use Rattle.ssql_tokens.specs.declared.token.Token.TheVariants as t
use Rattle.ssql_parse.proofs.PrintedParts.{word_text}
use Rattle.ssql_parse.proofs.printing.Layout.operator.Goals as goal

pub returns : goal.returns
returns c = c.in_ok-word.ensures ∙ word_text c.args.self.now (t.Operator c.args.operator) c.as_bytes.result.now (c.as_bytes.ensures.value ∙ c.text.ensures) refl refl
