-- What text a token is. The first octet tells the kind.
use Rattle.std.specs.Prelude.{ℕ, ◌==◌, ◌&&◌, ◌||◌, nat_le, List, [], ◌∷◌, length, Option, Some, None, option_map, is_some, Bool, true, false, if◌then◌else◌}
use Rattle.std.specs.List.{list_all}
use Rattle.std.specs.Option.{option_or}
use Rattle.text_forms.specs.Digits.{is_digit}
use Rattle.text_forms.specs.Names.{is_name}
use Rattle.ssql_tokens.specs.declared.token.Token.{Token}
use Rattle.ssql_tokens.specs.declared.token.Token.TheVariants as t
use Rattle.ssql_tokens.specs.Symbols.{read_keyword, read_column, read_punctuation, read_operator}

-- ---- octets

-- a space, a tab, a carriage return or a line feed
abbrev pub is_blank : ℕ → Bool
is_blank b = b == 32 || b == 9 || b == 13 || b == 10

-- a letter or `_`
abbrev pub is_letter : ℕ → Bool
is_letter b = (nat_le 65 b && nat_le b 90) || (nat_le 97 b && nat_le b 122) || b == 95

-- a letter, a digit or `_`
abbrev pub is_word_octet : ℕ → Bool
is_word_octet b = is_letter b || is_digit b

-- an octet that may stand in a string
abbrev pub is_string_octet : ℕ → Bool
is_string_octet b = nat_le 32 b && nat_le b 126

-- ---- words: keywords, columns and names

-- one to so many octets, each of which passes a test
abbrev pub is_all : (ℕ → Bool) → ℕ → List ℕ → Bool
is_all test most octets = nat_le 1 (length octets) && nat_le (length octets) most && list_all test octets

-- the name that octets are: a word of 1 to 64 octets always is one
abbrev pub name_token : List ℕ → Option Token
name_token octets = if is_name octets then Some (t.Name octets) else None

-- a keyword or a column in any case, or else a name
abbrev pub word_of : List ℕ → Option Token
word_of octets = option_or (option_map t.Symbol (read_keyword octets)) (option_or (option_map t.Column (read_column octets)) (name_token octets))

-- a word that begins with a letter or `_` has 1 to 64 octets
abbrev pub word_token : List ℕ → Option Token
word_token octets = if is_all is_word_octet 64 octets then word_of octets else None

-- ---- numbers

-- an optional `-`, and 1 to 20 digits
abbrev pub is_number_text : List ℕ → Bool
is_number_text [] = false
is_number_text (b ∷ rest) = if b == 45 then is_all is_digit 20 rest else is_all is_digit 20 (b ∷ rest)

-- the number that octets are
abbrev pub number_token : List ℕ → Option Token
number_token octets = if is_number_text octets then Some (t.Number octets) else None

-- ---- strings, behind their first quote

-- octets of a string, each quote doubled, and the last quote
abbrev mutual
  pub is_string_rest : List ℕ → Bool
  is_string_rest [] = false
  is_string_rest (b ∷ rest) = if b == 39 then is_behind_quote rest else is_string_octet b && is_string_rest rest

  pub is_behind_quote : List ℕ → Bool
  is_behind_quote [] = true
  is_behind_quote (b ∷ rest) = b == 39 && is_string_rest rest

-- the same without the last quote, and with one quote for two
abbrev mutual
  pub unquoted : List ℕ → List ℕ
  unquoted [] = []
  unquoted (b ∷ rest) = if b == 39 then unquoted_behind rest else b ∷ unquoted rest

  pub unquoted_behind : List ℕ → List ℕ
  unquoted_behind [] = []
  unquoted_behind (b ∷ rest) = 39 ∷ unquoted rest

-- from behind a quote of the string, or not
abbrev pub unquoted_from : Bool → List ℕ → List ℕ
unquoted_from true rest = unquoted_behind rest
unquoted_from false rest = unquoted rest

-- the string that octets behind a quote are
abbrev pub string_token : List ℕ → Option Token
string_token rest = if is_string_rest rest then Some (t.Quoted (unquoted rest)) else None

-- ---- punctuation and operators

-- punctuation, or else an operator
abbrev pub punctuation_token : List ℕ → Option Token
punctuation_token octets = option_or (option_map t.Symbol (read_punctuation octets)) (option_map t.Operator (read_operator octets))

-- ---- tokens

-- the token that octets spell
abbrev pub token_of : List ℕ → Option Token
token_of [] = None
token_of (b ∷ rest) =
    if is_letter b then word_token (b ∷ rest)
    else (if b == 39 then string_token rest
    else (if is_digit b || b == 45 then number_token (b ∷ rest)
    else punctuation_token (b ∷ rest)))

-- octets spell a token
abbrev pub is_token : List ℕ → Bool
is_token octets = is_some (token_of octets)
