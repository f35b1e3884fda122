use Rattle.std.proofs.Common.{ℕ, length, take, ap, ◌∙◌}
use Rattle.std.specs.Prelude.{take_while}
use Rattle.ssql_tokens.specs.TokenTexts.{is_word_octet}
use Rattle.ssql_tokens.proofs.LeadingLengths.{front_len}
use Rattle.ssql_tokens.proofs.lengths.word_len.Goals as goal

pub returns-clause-value : goal.returns-clause-value
returns-clause-value c =
    c.leading_word_octets.ensures.value ∙ ap (λ (k : ℕ). length (take_while is_word_octet (take k c.args.text.now))) c.min.ensures ∙ front_len is_word_octet c.args.text.now 64
