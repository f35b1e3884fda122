use Rattle.std.proofs.Common.{◌≡◌, find}
use Rattle.std.specs.Array.Iter.{array_into_iter_items}
use Rattle.std.specs.Str.{str_eq_ignore_ascii_case}
use Rattle.ssql_tokens.specs.Symbols.{column_text, read_column}
use Rattle.ssql_tokens.proofs.symbols.read_column.Given as goal

abbrev pub invariant-loop-column : goal.invariant-loop-column
invariant-loop-column l = find (λ k. str_eq_ignore_ascii_case (column_text k) l.octets) (array_into_iter_items l.column-iterator) ≡ read_column l.octets
