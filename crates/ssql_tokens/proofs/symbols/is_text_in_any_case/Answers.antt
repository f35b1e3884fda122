use Rattle.std.proofs.Common.{ℕ, List, map, ap, ◌∙◌}
use Rattle.std.specs.Char.{to_ascii_lowercase}
use Rattle.std.specs.Str.{bytes_eq}
use Rattle.std.proofs.lemmas.Bool.Decides.{same_from_decides}
use Rattle.std.proofs.lemmas.Slice.Eq.{bytes_eq-Decides}
use Rattle.ssql_tokens.proofs.symbols.is_text_in_any_case.Goals as goal

pub returns : goal.returns
returns c =
    same_from_decides _ _ c.eq_ignore_ascii_case.ensures.test (bytes_eq-Decides _ _)
    ∙ ap (λ (octets : List ℕ). bytes_eq (map to_ascii_lowercase octets) (map to_ascii_lowercase c.args.octets.now)) c.as_bytes.ensures.value
