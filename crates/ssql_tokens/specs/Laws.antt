-- What is true of every script's tokens.
use Rattle.std.specs.Prelude.{◌≡◌, ℕ, List, Some}
use Rattle.ssql_tokens.specs.declared.token.Token.{Token}
use Rattle.ssql_tokens.specs.declared.token.Token.TheVariants as t
use Rattle.ssql_tokens.specs.declared.symbols.Symbol.{Symbol}
use Rattle.ssql_tokens.specs.declared.symbols.Column.{Column}
use Rattle.ssql_tokens.specs.declared.symbols.ComparisonOperator.{ComparisonOperator}
use Rattle.ssql_tokens.specs.Symbols.{symbol_text, column_text, operator_text}
use Rattle.ssql_tokens.specs.TokenTexts.{token_of}
use Rattle.ssql_tokens.specs.Tokens.{AreTokens, IsNoToken}
use Rattle.ssql_tokens.specs.Written.{token_text, IsTokenOfText}

-- a text is one list of tokens at most, and each token has one place
abbrev pub TokensAreOne : Type 0
TokensAreOne = (text : List ℕ) (a b : List Token) (p q : List ℕ) → AreTokens text a p → AreTokens text b q → (a ≡ b) × (p ≡ q)

-- a text that stops being tokens is none
abbrev pub NoneWhereItStops : Type 0
NoneWhereItStops = (text : List ℕ) (at : ℕ) (tokens : List Token) (places : List ℕ) → IsNoToken text at → AreTokens text tokens places → ⊥

-- a text stops being tokens at one octet
abbrev pub StopsAtOnePlace : Type 0
StopsAtOnePlace = (text : List ℕ) (at other : ℕ) → IsNoToken text at → IsNoToken text other → at ≡ other

-- each keyword and each punctuation is read from its own text
abbrev pub SymbolsAreRead : Type 0
SymbolsAreRead = (symbol : Symbol) → token_of (symbol_text symbol) ≡ Some (t.Symbol symbol)

-- each column is read from its own text
abbrev pub ColumnsAreRead : Type 0
ColumnsAreRead = (column : Column) → token_of (column_text column) ≡ Some (t.Column column)

-- each operator is read from its own text
abbrev pub OperatorsAreRead : Type 0
OperatorsAreRead = (operator : ComparisonOperator) → token_of (operator_text operator) ≡ Some (t.Operator operator)

-- a token that some text spells is read again from how it is written
abbrev pub TokensAreReadAgain : Type 0
TokensAreReadAgain = (token : Token) → IsTokenOfText token → token_of (token_text token) ≡ Some token
