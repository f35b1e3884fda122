use Rattle.std.proofs.Common.{◌≡◌, find}
use Rattle.std.specs.Array.Iter.{array_into_iter_items}
use Rattle.std.specs.Str.{str_eq_ignore_ascii_case}
use Rattle.ssql_tokens.specs.Symbols.{operator_text, read_operator}
use Rattle.ssql_tokens.proofs.symbols.read_operator.Given as goal

abbrev pub invariant-loop-operator : goal.invariant-loop-operator
invariant-loop-operator l = find (λ k. str_eq_ignore_ascii_case (operator_text k) l.octets) (array_into_iter_items l.operator-iterator) ≡ read_operator l.octets
