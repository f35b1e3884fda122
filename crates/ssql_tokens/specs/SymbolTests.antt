-- Whether a token is a given symbol.
use Rattle.std.specs.Prelude.{Bool, false}
use denote.Enum.Bare.{sameb}
use Rattle.ssql_tokens.specs.contracts.symbols.Symbol.{the_type}
use Rattle.ssql_tokens.specs.declared.symbols.Symbol.{Symbol}
use Rattle.ssql_tokens.specs.declared.token.Token.{Token}
use Rattle.ssql_tokens.specs.declared.token.Token.TheVariants as t

-- two symbols are one
abbrev pub same_symbol : Symbol → Symbol → Bool
same_symbol = sameb the_type

-- the token is this symbol
abbrev pub is_symbol : Symbol → Token → Bool
is_symbol symbol (t.Symbol found) = same_symbol found symbol
is_symbol symbol (t.Column c) = false
is_symbol symbol (t.Operator o) = false
is_symbol symbol (t.Name n) = false
is_symbol symbol (t.Number n) = false
is_symbol symbol (t.Quoted q) = false
