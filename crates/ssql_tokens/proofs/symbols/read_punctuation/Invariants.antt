use Rattle.std.proofs.Common.{◌≡◌, find}
use Rattle.std.specs.Array.Iter.{array_into_iter_items}
use Rattle.std.specs.Str.{str_eq_ignore_ascii_case}
use Rattle.ssql_tokens.specs.Symbols.{symbol_text, read_punctuation}
use Rattle.ssql_tokens.proofs.symbols.read_punctuation.Given as goal

abbrev pub invariant-loop-symbol : goal.invariant-loop-symbol
invariant-loop-symbol l = find (λ k. str_eq_ignore_ascii_case (symbol_text k) l.octets) (array_into_iter_items l.symbol-iterator) ≡ read_punctuation l.octets
