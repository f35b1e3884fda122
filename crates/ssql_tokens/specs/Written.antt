-- How a token is written.
use Rattle.std.specs.Prelude.{◌≡◌, ◌==◌, ◌++◌, ℕ, List, [], ◌∷◌, Some, if◌then◌else◌}
use Rattle.ssql_tokens.specs.declared.token.Token.{Token}
use Rattle.ssql_tokens.specs.declared.token.Token.TheVariants as t
use Rattle.ssql_tokens.specs.Symbols.{symbol_text, column_text, operator_text}
use Rattle.ssql_tokens.specs.TokenTexts.{token_of}

-- a string's octets, each quote doubled
abbrev pub quotes_doubled : List ℕ → List ℕ
quotes_doubled [] = []
quotes_doubled (b ∷ rest) = if b == 39 then 39 ∷ 39 ∷ quotes_doubled rest else b ∷ quotes_doubled rest

-- how a token is written: a keyword in capitals, a column as the table of columns has it, all else as it was read
abbrev pub token_text : Token → List ℕ
token_text (t.Symbol symbol) = symbol_text symbol
token_text (t.Column column) = column_text column
token_text (t.Operator operator) = operator_text operator
token_text (t.Name name) = name
token_text (t.Number number) = number
token_text (t.Quoted octets) = 39 ∷ (quotes_doubled octets ++ 39 ∷ [])

-- some text spells the token
abbrev pub IsTokenOfText : Token → Type 0
IsTokenOfText token = (text : List ℕ) × (token_of text ≡ Some token)

-- some text spells each of the tokens
abbrev pub AreOfTexts : List Token → Type 0
AreOfTexts [] = Unit {0}
AreOfTexts (token ∷ tokens) = IsTokenOfText token × AreOfTexts tokens
