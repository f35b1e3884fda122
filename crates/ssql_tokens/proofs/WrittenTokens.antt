-- A token that some text spells is read again from how it is written.
use Rattle.std.proofs.Common.{◌≡◌, ℕ, Bool, true, false, cond, eqb, List, [], ◌∷◌, ◌++◌, Option, Some, None, option_map, refl, sym, ap, subst, ◌∙◌}
use Rattle.std.specs.Prelude.{◌||◌, ◌&&◌}
use Rattle.std.specs.Option.{option_or}
use Rattle.std.proofs.lemmas.Bool.{and_parts, cond-true, cond-false, eqb-true}
use Rattle.text_forms.specs.Digits.{is_digit}
use Rattle.text_forms.specs.Names.{is_name}
use Rattle.ssql_tokens.specs.declared.token.Token.{Token}
use Rattle.ssql_tokens.specs.declared.token.Token.TheVariants as t
use Rattle.ssql_tokens.specs.declared.symbols.Symbol.{Symbol}
use Rattle.ssql_tokens.specs.declared.symbols.Symbol.TheVariants as s
use Rattle.ssql_tokens.specs.declared.symbols.Column.{Column}
use Rattle.ssql_tokens.specs.declared.symbols.Column.TheVariants as c
use Rattle.ssql_tokens.specs.declared.symbols.ComparisonOperator.{ComparisonOperator}
use Rattle.ssql_tokens.specs.declared.symbols.ComparisonOperator.TheVariants as o
use Rattle.ssql_tokens.specs.Symbols.{symbol_text, column_text, operator_text, read_keyword, read_column, read_punctuation, read_operator}
use Rattle.ssql_tokens.specs.TokenTexts.{is_letter, is_word_octet, is_string_octet, is_all, name_token, word_of, word_token, is_number_text, number_token, is_string_rest, is_behind_quote, unquoted, unquoted_behind, string_token, punctuation_token, token_of}
use Rattle.ssql_tokens.specs.Written.{quotes_doubled, token_text, IsTokenOfText}

-- ---- the tables

pub symbol_again : (symbol : Symbol) → token_of (symbol_text symbol) ≡ Some (t.Symbol symbol)
unfolding read_keyword read_column read_punctuation read_operator
symbol_again s.Create = refl
symbol_again s.Table = refl
symbol_again s.Like = refl
symbol_again s.Stream = refl
symbol_again s.As = refl
symbol_again s.Insert = refl
symbol_again s.Into = refl
symbol_again s.Select = refl
symbol_again s.From = refl
symbol_again s.Where = refl
symbol_again s.Order = refl
symbol_again s.Asc = refl
symbol_again s.Desc = refl
symbol_again s.Limit = refl
symbol_again s.Merge = refl
symbol_again s.Not = refl
symbol_again s.And = refl
symbol_again s.Or = refl
symbol_again s.In = refl
symbol_again s.Show = refl
symbol_again s.Histogram = refl
symbol_again s.Partitions = refl
symbol_again s.Semicolon = refl
symbol_again s.Comma = refl
symbol_again s.OpenParen = refl
symbol_again s.CloseParen = refl
symbol_again s.Star = refl

pub column_again : (column : Column) → token_of (column_text column) ≡ Some (t.Column column)
unfolding read_keyword read_column
column_again c.Gentime = refl
column_again c.SeqNum = refl
column_again c.Rectime = refl
column_again c.Link = refl
column_again c.Pname = refl
column_again c.Apid = refl
column_again c.Length = refl
column_again c.Packet = refl

pub operator_again : (operator : ComparisonOperator) → token_of (operator_text operator) ≡ Some (t.Operator operator)
unfolding read_punctuation read_operator
operator_again o.Equal = refl
operator_again o.LessOrGreater = refl
operator_again o.NotEqual = refl
operator_again o.Less = refl
operator_again o.LessOrEqual = refl
operator_again o.Greater = refl
operator_again o.GreaterOrEqual = refl

-- ---- strings

octet_requoted : (b : ℕ) (rest : List ℕ) (c : Bool) → eqb b 39 ≡ c → is_string_rest (b ∷ rest) ≡ true →
    (is_string_rest rest ≡ true → quotes_doubled (unquoted rest) ++ 39 ∷ [] ≡ rest) → (is_behind_quote rest ≡ true → quotes_doubled (unquoted_behind rest) ++ 39 ∷ [] ≡ 39 ∷ rest) →
    quotes_doubled (unquoted (b ∷ rest)) ++ 39 ∷ [] ≡ b ∷ rest
octet_requoted b rest true e is again behind =
    let inside : is_behind_quote rest ≡ true = sym (cond-true (eqb b 39) (is_behind_quote rest) (is_string_octet b && is_string_rest rest) e) ∙ is in
    let text : unquoted (b ∷ rest) ≡ unquoted_behind rest = cond-true (eqb b 39) (unquoted_behind rest) (b ∷ unquoted rest) e in
    ap (λ (xs : List ℕ). quotes_doubled xs ++ 39 ∷ []) text ∙ behind inside ∙ ap (λ (n : ℕ). n ∷ rest) (sym (eqb-true b 39 e))
octet_requoted b rest false e is again behind =
    let parts = and_parts (is_string_octet b) (is_string_rest rest) (sym (cond-false (eqb b 39) (is_behind_quote rest) (is_string_octet b && is_string_rest rest) e) ∙ is) in
    let text : unquoted (b ∷ rest) ≡ b ∷ unquoted rest = cond-false (eqb b 39) (unquoted_behind rest) (b ∷ unquoted rest) e in
    let doubled : quotes_doubled (b ∷ unquoted rest) ≡ b ∷ quotes_doubled (unquoted rest) = cond-false (eqb b 39) (39 ∷ 39 ∷ quotes_doubled (unquoted rest)) (b ∷ quotes_doubled (unquoted rest)) e in
    ap (λ (xs : List ℕ). quotes_doubled xs ++ 39 ∷ []) text ∙ ap (λ (xs : List ℕ). xs ++ 39 ∷ []) doubled ∙ ap (λ (xs : List ℕ). b ∷ xs) (again parts.1)

two_requoted : (b : ℕ) (rest : List ℕ) → (eqb b 39 ≡ true) × (is_string_rest rest ≡ true) → (is_string_rest rest ≡ true → quotes_doubled (unquoted rest) ++ 39 ∷ [] ≡ rest) →
    quotes_doubled (39 ∷ unquoted rest) ++ 39 ∷ [] ≡ 39 ∷ b ∷ rest
two_requoted b rest parts again = ap (λ (xs : List ℕ). 39 ∷ 39 ∷ xs) (again parts.1) ∙ ap (λ (n : ℕ). 39 ∷ n ∷ rest) (sym (eqb-true b 39 parts.0))

mutual
  requoted : (rest : List ℕ) → is_string_rest rest ≡ true → quotes_doubled (unquoted rest) ++ 39 ∷ [] ≡ rest
  requoted [] e = absurd cc
  requoted (b ∷ rest) e = octet_requoted b rest (eqb b 39) refl e (requoted rest) (requoted_behind rest)

  requoted_behind : (rest : List ℕ) → is_behind_quote rest ≡ true → quotes_doubled (unquoted_behind rest) ++ 39 ∷ [] ≡ 39 ∷ rest
  requoted_behind [] e = refl
  requoted_behind (b ∷ rest) e = two_requoted b rest (and_parts (eqb b 39) (is_string_rest rest) e) (requoted rest)

-- ---- tokens

some_token : (a b : Token) → ◌≡◌ {A = Option Token} (Some a) (Some b) → a ≡ b
some_token a b e = cc

abbrev IsReadAgain : Token → Type 0
IsReadAgain token = token_of (token_text token) ≡ Some token

-- a token that is its own text
own_text : (text : List ℕ) (a token : Token) → token_text a ≡ text → ◌≡◌ {A = Option Token} (Some a) (Some token) → token_of text ≡ Some token → IsReadAgain token
own_text text a token own e spelled =
    let is : a ≡ token = some_token a token e in
    ap (λ (x : Token). token_of (token_text x)) (sym is) ∙ ap token_of own ∙ spelled

-- a token of a table
of_table : (a token : Token) → IsReadAgain a → ◌≡◌ {A = Option Token} (Some a) (Some token) → IsReadAgain token
of_table a token again e = subst (λ (x : Token). IsReadAgain x) (some_token a token e) again

name_again : (text : List ℕ) (token : Token) (c : Bool) → token_of text ≡ Some token → cond c (Some (t.Name text)) None ≡ Some token → IsReadAgain token
name_again text token true spelled e = own_text text (t.Name text) token refl e spelled
name_again text token false spelled e = absurd cc

word_again : (text : List ℕ) (token : Token) (keyword : Option Symbol) (column : Option Column) → token_of text ≡ Some token →
    option_or (option_map t.Symbol keyword) (option_or (option_map t.Column column) (name_token text)) ≡ Some token → IsReadAgain token
word_again text token (Some keyword) column spelled e = of_table (t.Symbol keyword) token (symbol_again keyword) e
word_again text token None (Some column) spelled e = of_table (t.Column column) token (column_again column) e
word_again text token None None spelled e = name_again text token (is_name text) spelled e

letters_again : (text : List ℕ) (token : Token) (c : Bool) → token_of text ≡ Some token → cond c (word_of text) None ≡ Some token → IsReadAgain token
letters_again text token true spelled e = word_again text token (read_keyword text) (read_column text) spelled e
letters_again text token false spelled e = absurd cc

string_again : (b : ℕ) (rest : List ℕ) (token : Token) (c : Bool) → is_string_rest rest ≡ c → eqb b 39 ≡ true → token_of (b ∷ rest) ≡ Some token → cond c (Some (t.Quoted (unquoted rest))) None ≡ Some token → IsReadAgain token
string_again b rest token true is quote spelled e =
    let own : token_text (t.Quoted (unquoted rest)) ≡ b ∷ rest = ap (λ (xs : List ℕ). 39 ∷ xs) (requoted rest is) ∙ ap (λ (n : ℕ). n ∷ rest) (sym (eqb-true b 39 quote)) in
    own_text (b ∷ rest) (t.Quoted (unquoted rest)) token own e spelled
string_again b rest token false is quote spelled e = absurd cc

number_again : (text : List ℕ) (token : Token) (c : Bool) → token_of text ≡ Some token → cond c (Some (t.Number text)) None ≡ Some token → IsReadAgain token
number_again text token true spelled e = own_text text (t.Number text) token refl e spelled
number_again text token false spelled e = absurd cc

other_again : (token : Token) (symbol : Option Symbol) (operator : Option ComparisonOperator) → option_or (option_map t.Symbol symbol) (option_map t.Operator operator) ≡ Some token → IsReadAgain token
other_again token (Some symbol) operator e = of_table (t.Symbol symbol) token (symbol_again symbol) e
other_again token None (Some operator) e = of_table (t.Operator operator) token (operator_again operator) e
other_again token None None e = absurd cc

-- by the first octet
first_again : (b : ℕ) (rest : List ℕ) (token : Token) (letter quote number : Bool) → is_letter b ≡ letter → eqb b 39 ≡ quote → (is_digit b || eqb b 45) ≡ number → token_of (b ∷ rest) ≡ Some token →
    cond letter (word_token (b ∷ rest)) (cond quote (string_token rest) (cond number (number_token (b ∷ rest)) (punctuation_token (b ∷ rest)))) ≡ Some token → IsReadAgain token
first_again b rest token true quote number l q n spelled e = letters_again (b ∷ rest) token (is_all is_word_octet 64 (b ∷ rest)) spelled e
first_again b rest token false true number l q n spelled e = string_again b rest token (is_string_rest rest) refl q spelled e
first_again b rest token false false true l q n spelled e = number_again (b ∷ rest) token (is_number_text (b ∷ rest)) spelled e
first_again b rest token false false false l q n spelled e = other_again token (read_punctuation (b ∷ rest)) (read_operator (b ∷ rest)) e

text_again : (text : List ℕ) (token : Token) → token_of text ≡ Some token → IsReadAgain token
text_again [] token e = absurd cc
text_again (b ∷ rest) token e = first_again b rest token (is_letter b) (eqb b 39) (is_digit b || eqb b 45) refl refl refl e e

pub token_again : (token : Token) → IsTokenOfText token → token_of (token_text token) ≡ Some token
token_again token h = text_again h.0 token h.1
