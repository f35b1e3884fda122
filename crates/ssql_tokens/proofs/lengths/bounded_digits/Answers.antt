use Rattle.std.proofs.Common.{ℕ, length, take, ap, ◌∙◌}
use Rattle.std.specs.Prelude.{take_while}
use Rattle.text_forms.specs.Digits.{is_digit}
use Rattle.ssql_tokens.proofs.LeadingLengths.{front_len}
use Rattle.ssql_tokens.proofs.lengths.bounded_digits.Goals as goal

pub returns-clause-value : goal.returns-clause-value
returns-clause-value c =
    c.leading_digits.ensures.value ∙ ap (λ (k : ℕ). length (take_while is_digit (take k c.args.text.now))) c.min.ensures ∙ front_len is_digit c.args.text.now 20
