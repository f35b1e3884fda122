-- A token that some text spells is the longest at its place where a separator stands behind it: a space, `,`, `;`, `)`, a line feed, or the end.
use Rattle.std.proofs.Common.{◌≡◌, ◌≤◌, ◌+◌, ℕ, suc, Bool, true, false, cond, not, eqb, ltb, List, [], ◌∷◌, ◌++◌, length, take, codes, Option, Some, None, option_map, refl, sym, ap, ap₂, subst, ◌∙◌, arith}
use Rattle.std.specs.Prelude.{◌||◌, ◌&&◌, nat_le}
use Rattle.std.specs.List.{list_all}
use Rattle.std.specs.Option.{option_or}
use Rattle.std.proofs.Math.Seq.{take-append_seam}
use Rattle.std.proofs.lemmas.Bool.{and_parts, cond-true, cond-false, eqb-true, leb-true, lt-ltb}
use Rattle.text_forms.specs.Digits.{is_digit}
use Rattle.text_forms.specs.Names.{is_name}
use Rattle.ssql_tokens.specs.declared.token.Token.{Token}
use Rattle.ssql_tokens.specs.declared.token.Token.TheVariants as t
use Rattle.ssql_tokens.specs.declared.symbols.Symbol.{Symbol}
use Rattle.ssql_tokens.specs.declared.symbols.Symbol.TheVariants as s
use Rattle.ssql_tokens.specs.declared.symbols.Column.{Column}
use Rattle.ssql_tokens.specs.declared.symbols.Column.TheVariants as c
use Rattle.ssql_tokens.specs.declared.symbols.ComparisonOperator.{ComparisonOperator}
use Rattle.ssql_tokens.specs.declared.symbols.ComparisonOperator.TheVariants as o
use Rattle.ssql_tokens.specs.Symbols.{read_keyword, read_column, read_punctuation, read_operator}
use Rattle.ssql_tokens.specs.TokenTexts.{is_blank, is_letter, is_word_octet, is_string_octet, is_all, word_of, word_token, is_number_text, number_token, is_string_rest, is_behind_quote, unquoted, string_token, punctuation_token, token_of}
use Rattle.ssql_tokens.specs.Lengths.{leading_len, word_len, positive, digits_len, number_len, one_longer, string_len, string_len_at_quote, behind_two_quotes}
use Rattle.ssql_tokens.specs.Blanks.{skip_blanks, skip_comment, begins_with_minus}
use Rattle.ssql_tokens.specs.Tokenizing.{begins_with, begins_number, begins_punctuation, pair_token}
use Rattle.ssql_tokens.specs.Tokens.{IsFirstToken}
use Rattle.ssql_tokens.specs.Written.{token_text, IsTokenOfText}
use Rattle.ssql_tokens.proofs.LeadingLengths.{NonePasses, run_again, run_is}
use Rattle.ssql_tokens.proofs.FirstTokens.{word_begins, first_word, first_number, first_string, first_pair, first_mark}
use Rattle.ssql_tokens.proofs.WrittenTokens.{symbol_again, column_again, token_again}

-- ---- separators

pub data Separated (rest : List ℕ) : Type 0 where
  nothing : rest ≡ [] → Separated rest
  space : (xs : List ℕ) → rest ≡ 32 ∷ xs → Separated rest
  comma : (xs : List ℕ) → rest ≡ 44 ∷ xs → Separated rest
  semicolon : (xs : List ℕ) → rest ≡ 59 ∷ xs → Separated rest
  parenthesis : (xs : List ℕ) → rest ≡ 41 ∷ xs → Separated rest
  line : (xs : List ℕ) → rest ≡ 10 ∷ xs → Separated rest

-- what is so at each of them
at_each : (P : List ℕ → Type 0) → P [] → ((xs : List ℕ) → P (32 ∷ xs)) → ((xs : List ℕ) → P (44 ∷ xs)) → ((xs : List ℕ) → P (59 ∷ xs)) → ((xs : List ℕ) → P (41 ∷ xs)) → ((xs : List ℕ) → P (10 ∷ xs)) →
    (rest : List ℕ) → Separated rest → P rest
at_each P e a b d f g rest (Separated.nothing is) = subst P (sym is) e
at_each P e a b d f g rest (Separated.space xs is) = subst P (sym is) (a xs)
at_each P e a b d f g rest (Separated.comma xs is) = subst P (sym is) (b xs)
at_each P e a b d f g rest (Separated.semicolon xs is) = subst P (sym is) (d xs)
at_each P e a b d f g rest (Separated.parenthesis xs is) = subst P (sym is) (f xs)
at_each P e a b d f g rest (Separated.line xs is) = subst P (sym is) (g xs)

no_word_octet : (rest : List ℕ) → Separated rest → NonePasses is_word_octet rest
no_word_octet = at_each (NonePasses is_word_octet) tt (λ xs. refl) (λ xs. refl) (λ xs. refl) (λ xs. refl) (λ xs. refl)

no_digit : (rest : List ℕ) → Separated rest → NonePasses is_digit rest
no_digit = at_each (NonePasses is_digit) tt (λ xs. refl) (λ xs. refl) (λ xs. refl) (λ xs. refl) (λ xs. refl)

-- no quote comes next
abbrev NoQuote : List ℕ → Type 0
NoQuote [] = Unit {0}
NoQuote (b ∷ rest) = eqb b 39 ≡ false

no_quote : (rest : List ℕ) → Separated rest → NoQuote rest
no_quote = at_each NoQuote tt (λ xs. refl) (λ xs. refl) (λ xs. refl) (λ xs. refl) (λ xs. refl)

-- ---- words

three : (a b d : Bool) → (a && b && d) ≡ true → (a ≡ true) × (b ≡ true) × (d ≡ true)
three true true d e = (refl, refl, e)
three true false d e = absurd cc
three false b d e = absurd cc

word_parts : (w : List ℕ) (token : Token) (all : Bool) → is_all is_word_octet 64 w ≡ all → cond all (word_of w) None ≡ Some token → (is_all is_word_octet 64 w ≡ true) × (word_of w ≡ Some token)
word_parts w token true h e = (h, e)
word_parts w token false h e = absurd cc

pub word_before : (w rest : List ℕ) (token : Token) → begins_with is_letter w ≡ true → token_of w ≡ Some token → NonePasses is_word_octet rest → IsFirstToken (w ++ rest) (length w) token
word_before [] rest token letter spelled last = absurd cc
word_before (b ∷ xs) rest token letter spelled last =
    let w : List ℕ = b ∷ xs in
    let parts = word_parts w token (is_all is_word_octet 64 w) refl (sym (word_begins b xs letter) ∙ spelled) in
    let each = three (nat_le 1 (length w)) (nat_le (length w) 64) (list_all is_word_octet w) parts.0 in
    let few : length w ≤ 64 = leb-true (length w) 64 each.1 in
    let len : word_len (w ++ rest) ≡ length w = omega (arith, few, run_is is_word_octet (w ++ rest), run_again is_word_octet w rest each.2 last) in
    let front : take (word_len (w ++ rest)) (w ++ rest) ≡ w = ap (λ (k : ℕ). take k (w ++ rest)) len ∙ take-append_seam w rest in
    subst (λ (k : ℕ). IsFirstToken (w ++ rest) k token) len (first_word (w ++ rest) letter token (ap word_of front ∙ parts.1))

-- ---- numbers

positive_at : (n : ℕ) (none : Bool) → eqb n 0 ≡ none → 1 ≤ n → cond none None (Some n) ≡ Some n
positive_at n true e h = absurd (omega (arith, eqb-true n 0 e))
positive_at n false e h = refl

positive_some : (n : ℕ) → 1 ≤ n → positive n ≡ Some n
positive_some n h = positive_at n (eqb n 0) refl h

digits_before : (ds rest : List ℕ) → is_all is_digit 20 ds ≡ true → NonePasses is_digit rest → digits_len (ds ++ rest) ≡ Some (length ds)
digits_before ds rest all last =
    let each = three (nat_le 1 (length ds)) (nat_le (length ds) 20) (list_all is_digit ds) all in
    let some : 1 ≤ length ds = leb-true 1 (length ds) each.0 in
    let few : length ds ≤ 20 = leb-true (length ds) 20 each.1 in
    let len : leading_len is_digit 20 (ds ++ rest) ≡ length ds = omega (arith, few, run_is is_digit (ds ++ rest), run_again is_digit ds rest each.2 last) in
    ap positive len ∙ positive_some (length ds) some

number_len_before : (b : ℕ) (xs rest : List ℕ) (minus : Bool) → eqb b 45 ≡ minus → is_number_text (b ∷ xs) ≡ true → NonePasses is_digit rest → number_len ((b ∷ xs) ++ rest) ≡ Some (length (b ∷ xs))
number_len_before b xs rest true e is last =
    let digits : is_all is_digit 20 xs ≡ true = sym (cond-true (eqb b 45) (is_all is_digit 20 xs) (is_all is_digit 20 (b ∷ xs)) e) ∙ is in
    let more : length xs + 1 ≡ suc (length xs) = omega arith in
    cond-true (eqb b 45) (one_longer (digits_len (xs ++ rest))) (digits_len ((b ∷ xs) ++ rest)) e ∙ ap one_longer (digits_before xs rest digits last) ∙ ap (λ (k : ℕ). Some k) more
number_len_before b xs rest false e is last =
    let digits : is_all is_digit 20 (b ∷ xs) ≡ true = sym (cond-false (eqb b 45) (is_all is_digit 20 xs) (is_all is_digit 20 (b ∷ xs)) e) ∙ is in
    cond-false (eqb b 45) (one_longer (digits_len (xs ++ rest))) (digits_len ((b ∷ xs) ++ rest)) e ∙ digits_before (b ∷ xs) rest digits last

pub number_before : (n rest : List ℕ) → begins_with begins_number n ≡ true → is_number_text n ≡ true → NonePasses is_digit rest → IsFirstToken (n ++ rest) (length n) (t.Number n)
number_before [] rest begins is last = absurd cc
number_before (b ∷ xs) rest begins is last =
    let n : List ℕ = b ∷ xs in
    subst (λ (ys : List ℕ). IsFirstToken (n ++ rest) (length n) (t.Number ys)) (take-append_seam n rest)
    (first_number (n ++ rest) begins (length n) (number_len_before b xs rest (eqb b 45) refl is last))

-- ---- strings

octet_before : (b : ℕ) (xs rest : List ℕ) (quote : Bool) → eqb b 39 ≡ quote → is_string_rest (b ∷ xs) ≡ true → (is_string_rest xs ≡ true → string_len (xs ++ rest) ≡ Some (length xs)) →
    (is_behind_quote xs ≡ true → string_len_at_quote (xs ++ rest) ≡ Some (length xs + 1)) → string_len ((b ∷ xs) ++ rest) ≡ Some (length (b ∷ xs))
octet_before b xs rest true e is again behind =
    let inside : is_behind_quote xs ≡ true = sym (cond-true (eqb b 39) (is_behind_quote xs) (is_string_octet b && is_string_rest xs) e) ∙ is in
    let more : length xs + 1 ≡ suc (length xs) = omega arith in
    cond-true (eqb b 39) (string_len_at_quote (xs ++ rest)) (cond (is_string_octet b) (one_longer (string_len (xs ++ rest))) None) e ∙ behind inside ∙ ap (λ (k : ℕ). Some k) more
octet_before b xs rest false e is again behind =
    let parts = and_parts (is_string_octet b) (is_string_rest xs) (sym (cond-false (eqb b 39) (is_behind_quote xs) (is_string_octet b && is_string_rest xs) e) ∙ is) in
    let more : length xs + 1 ≡ suc (length xs) = omega arith in
    cond-false (eqb b 39) (string_len_at_quote (xs ++ rest)) (cond (is_string_octet b) (one_longer (string_len (xs ++ rest))) None) e
    ∙ cond-true (is_string_octet b) (one_longer (string_len (xs ++ rest))) None parts.0 ∙ ap one_longer (again parts.1) ∙ ap (λ (k : ℕ). Some k) more

quote_before : (b : ℕ) (xs rest : List ℕ) → (eqb b 39 ≡ true) × (is_string_rest xs ≡ true) → (is_string_rest xs ≡ true → string_len (xs ++ rest) ≡ Some (length xs)) →
    string_len_at_quote ((b ∷ xs) ++ rest) ≡ Some (length (b ∷ xs) + 1)
quote_before b xs rest parts again =
    let more : length xs + 2 ≡ suc (length xs) + 1 = omega arith in
    cond-true (eqb b 39) (behind_two_quotes (string_len (xs ++ rest))) (Some 1) parts.0 ∙ ap behind_two_quotes (again parts.1) ∙ ap (λ (k : ℕ). Some k) more

quote_ends : (rest : List ℕ) → NoQuote rest → string_len_at_quote rest ≡ Some 1
quote_ends [] last = refl
quote_ends (b ∷ rest) last = cond-false (eqb b 39) (behind_two_quotes (string_len rest)) (Some 1) last

mutual
  string_len_before : (xs rest : List ℕ) → NoQuote rest → is_string_rest xs ≡ true → string_len (xs ++ rest) ≡ Some (length xs)
  string_len_before [] rest last e = absurd cc
  string_len_before (b ∷ xs) rest last e = octet_before b xs rest (eqb b 39) refl e (string_len_before xs rest last) (quote_len_before xs rest last)

  quote_len_before : (xs rest : List ℕ) → NoQuote rest → is_behind_quote xs ≡ true → string_len_at_quote (xs ++ rest) ≡ Some (length xs + 1)
  quote_len_before [] rest last e = quote_ends rest last
  quote_len_before (b ∷ xs) rest last e = quote_before b xs rest (and_parts (eqb b 39) (is_string_rest xs) e) (string_len_before xs rest last)

pub string_before : (inside rest : List ℕ) → is_string_rest inside ≡ true → NoQuote rest → IsFirstToken ((39 ∷ inside) ++ rest) (length (39 ∷ inside)) (t.Quoted (unquoted inside))
string_before inside rest is last =
    let more : length inside + 1 ≡ suc (length inside) = omega arith in
    let first = first_string ((39 ∷ inside) ++ rest) refl (length inside) (string_len_before inside rest last is) in
    subst (λ (k : ℕ). IsFirstToken ((39 ∷ inside) ++ rest) k (t.Quoted (unquoted inside))) more
    (subst (λ (ys : List ℕ). IsFirstToken ((39 ∷ inside) ++ rest) (length inside + 1) (t.Quoted (unquoted ys))) (take-append_seam inside rest) first)

-- ---- punctuation and operators

either_none : (b : Bool) (x : Option Token) → x ≡ None → cond b x None ≡ None
either_none true x e = e
either_none false x e = refl

no_pair : (b : ℕ) (rest : List ℕ) → ((x : ℕ) → punctuation_token (b ∷ x ∷ []) ≡ None) → pair_token (b ∷ rest) ≡ None
no_pair b [] none = refl
no_pair b (x ∷ xs) none = either_none (ltb 1 (length (b ∷ x ∷ xs))) (punctuation_token (b ∷ x ∷ [])) (none x)

abbrev NoneWith : ℕ → ℕ → Type 0
NoneWith b x = punctuation_token (b ∷ x ∷ []) ≡ None

no_pair_apart : (b : ℕ) → NoneWith b 32 → NoneWith b 44 → NoneWith b 59 → NoneWith b 41 → NoneWith b 10 → (rest : List ℕ) → Separated rest → pair_token (b ∷ rest) ≡ None
no_pair_apart b e f g h k = at_each (λ rest. pair_token (b ∷ rest) ≡ None) refl (λ xs. either_none (ltb 1 (length (b ∷ 32 ∷ xs))) _ e) (λ xs. either_none (ltb 1 (length (b ∷ 44 ∷ xs))) _ f)
    (λ xs. either_none (ltb 1 (length (b ∷ 59 ∷ xs))) _ g) (λ xs. either_none (ltb 1 (length (b ∷ 41 ∷ xs))) _ h) (λ xs. either_none (ltb 1 (length (b ∷ 10 ∷ xs))) _ k)

one_before : (b : ℕ) (token : Token) → begins_punctuation b ≡ true → punctuation_token (b ∷ []) ≡ Some token → NoneWith b 32 → NoneWith b 44 → NoneWith b 59 → NoneWith b 41 → NoneWith b 10 →
    (rest : List ℕ) → Separated rest → IsFirstToken (b ∷ rest) 1 token
one_before b token begins is e f g h k rest apart = first_mark (b ∷ rest) begins (no_pair_apart b e f g h k rest apart) token is

two_before : (b x : ℕ) (token : Token) → begins_punctuation b ≡ true → punctuation_token (b ∷ x ∷ []) ≡ Some token → (rest : List ℕ) → IsFirstToken (b ∷ x ∷ rest) 2 token
two_before b x token begins is rest =
    first_pair (b ∷ x ∷ rest) begins token (cond-true (ltb 1 (length (b ∷ x ∷ rest))) (punctuation_token (b ∷ x ∷ [])) None (lt-ltb 1 (length (b ∷ x ∷ rest)) (omega arith)) ∙ is)

-- an opening parenthesis, whatever stands behind it
pub parenthesis_before : (rest : List ℕ) → IsFirstToken (40 ∷ rest) 1 (t.Symbol s.OpenParen)
unfolding read_punctuation read_operator
parenthesis_before rest = first_mark (40 ∷ rest) refl (no_pair 40 rest (λ x. refl)) (t.Symbol s.OpenParen) refl

symbol_before : (symbol : Symbol) (rest : List ℕ) → Separated rest → IsFirstToken (token_text (t.Symbol symbol) ++ rest) (length (token_text (t.Symbol symbol))) (t.Symbol symbol)
unfolding read_punctuation read_operator
symbol_before s.Create rest apart = word_before (codes "CREATE") rest (t.Symbol s.Create) refl (symbol_again s.Create) (no_word_octet rest apart)
symbol_before s.Table rest apart = word_before (codes "TABLE") rest (t.Symbol s.Table) refl (symbol_again s.Table) (no_word_octet rest apart)
symbol_before s.Like rest apart = word_before (codes "LIKE") rest (t.Symbol s.Like) refl (symbol_again s.Like) (no_word_octet rest apart)
symbol_before s.Stream rest apart = word_before (codes "STREAM") rest (t.Symbol s.Stream) refl (symbol_again s.Stream) (no_word_octet rest apart)
symbol_before s.As rest apart = word_before (codes "AS") rest (t.Symbol s.As) refl (symbol_again s.As) (no_word_octet rest apart)
symbol_before s.Insert rest apart = word_before (codes "INSERT") rest (t.Symbol s.Insert) refl (symbol_again s.Insert) (no_word_octet rest apart)
symbol_before s.Into rest apart = word_before (codes "INTO") rest (t.Symbol s.Into) refl (symbol_again s.Into) (no_word_octet rest apart)
symbol_before s.Select rest apart = word_before (codes "SELECT") rest (t.Symbol s.Select) refl (symbol_again s.Select) (no_word_octet rest apart)
symbol_before s.From rest apart = word_before (codes "FROM") rest (t.Symbol s.From) refl (symbol_again s.From) (no_word_octet rest apart)
symbol_before s.Where rest apart = word_before (codes "WHERE") rest (t.Symbol s.Where) refl (symbol_again s.Where) (no_word_octet rest apart)
symbol_before s.Order rest apart = word_before (codes "ORDER") rest (t.Symbol s.Order) refl (symbol_again s.Order) (no_word_octet rest apart)
symbol_before s.Asc rest apart = word_before (codes "ASC") rest (t.Symbol s.Asc) refl (symbol_again s.Asc) (no_word_octet rest apart)
symbol_before s.Desc rest apart = word_before (codes "DESC") rest (t.Symbol s.Desc) refl (symbol_again s.Desc) (no_word_octet rest apart)
symbol_before s.Limit rest apart = word_before (codes "LIMIT") rest (t.Symbol s.Limit) refl (symbol_again s.Limit) (no_word_octet rest apart)
symbol_before s.Merge rest apart = word_before (codes "MERGE") rest (t.Symbol s.Merge) refl (symbol_again s.Merge) (no_word_octet rest apart)
symbol_before s.Not rest apart = word_before (codes "NOT") rest (t.Symbol s.Not) refl (symbol_again s.Not) (no_word_octet rest apart)
symbol_before s.And rest apart = word_before (codes "AND") rest (t.Symbol s.And) refl (symbol_again s.And) (no_word_octet rest apart)
symbol_before s.Or rest apart = word_before (codes "OR") rest (t.Symbol s.Or) refl (symbol_again s.Or) (no_word_octet rest apart)
symbol_before s.In rest apart = word_before (codes "IN") rest (t.Symbol s.In) refl (symbol_again s.In) (no_word_octet rest apart)
symbol_before s.Show rest apart = word_before (codes "SHOW") rest (t.Symbol s.Show) refl (symbol_again s.Show) (no_word_octet rest apart)
symbol_before s.Histogram rest apart = word_before (codes "HISTOGRAM") rest (t.Symbol s.Histogram) refl (symbol_again s.Histogram) (no_word_octet rest apart)
symbol_before s.Partitions rest apart = word_before (codes "PARTITIONS") rest (t.Symbol s.Partitions) refl (symbol_again s.Partitions) (no_word_octet rest apart)
symbol_before s.Semicolon rest apart = one_before 59 (t.Symbol s.Semicolon) refl refl refl refl refl refl refl rest apart
symbol_before s.Comma rest apart = one_before 44 (t.Symbol s.Comma) refl refl refl refl refl refl refl rest apart
symbol_before s.CloseParen rest apart = one_before 41 (t.Symbol s.CloseParen) refl refl refl refl refl refl refl rest apart
symbol_before s.Star rest apart = one_before 42 (t.Symbol s.Star) refl refl refl refl refl refl refl rest apart
symbol_before s.OpenParen rest apart = parenthesis_before rest

column_before : (column : Column) (rest : List ℕ) → Separated rest → IsFirstToken (token_text (t.Column column) ++ rest) (length (token_text (t.Column column))) (t.Column column)
column_before c.Gentime rest apart = word_before (codes "gentime") rest (t.Column c.Gentime) refl (column_again c.Gentime) (no_word_octet rest apart)
column_before c.SeqNum rest apart = word_before (codes "seqNum") rest (t.Column c.SeqNum) refl (column_again c.SeqNum) (no_word_octet rest apart)
column_before c.Rectime rest apart = word_before (codes "rectime") rest (t.Column c.Rectime) refl (column_again c.Rectime) (no_word_octet rest apart)
column_before c.Link rest apart = word_before (codes "link") rest (t.Column c.Link) refl (column_again c.Link) (no_word_octet rest apart)
column_before c.Pname rest apart = word_before (codes "pname") rest (t.Column c.Pname) refl (column_again c.Pname) (no_word_octet rest apart)
column_before c.Apid rest apart = word_before (codes "apid") rest (t.Column c.Apid) refl (column_again c.Apid) (no_word_octet rest apart)
column_before c.Length rest apart = word_before (codes "length") rest (t.Column c.Length) refl (column_again c.Length) (no_word_octet rest apart)
column_before c.Packet rest apart = word_before (codes "packet") rest (t.Column c.Packet) refl (column_again c.Packet) (no_word_octet rest apart)

operator_before : (operator : ComparisonOperator) (rest : List ℕ) → Separated rest → IsFirstToken (token_text (t.Operator operator) ++ rest) (length (token_text (t.Operator operator))) (t.Operator operator)
unfolding read_punctuation read_operator
operator_before o.Equal rest apart = one_before 61 (t.Operator o.Equal) refl refl refl refl refl refl refl rest apart
operator_before o.LessOrGreater rest apart = two_before 60 62 (t.Operator o.LessOrGreater) refl refl rest
operator_before o.NotEqual rest apart = two_before 33 61 (t.Operator o.NotEqual) refl refl rest
operator_before o.Less rest apart = one_before 60 (t.Operator o.Less) refl refl refl refl refl refl refl rest apart
operator_before o.LessOrEqual rest apart = two_before 60 61 (t.Operator o.LessOrEqual) refl refl rest
operator_before o.Greater rest apart = one_before 62 (t.Operator o.Greater) refl refl refl refl refl refl refl rest apart
operator_before o.GreaterOrEqual rest apart = two_before 62 61 (t.Operator o.GreaterOrEqual) refl refl rest

-- ---- what a text spells, by its first octet

abbrev IsWord : Token → Type 0
IsWord (t.Symbol x) = Unit {0}
IsWord (t.Column x) = Unit {0}
IsWord (t.Operator x) = ⊥
IsWord (t.Name x) = Unit {0}
IsWord (t.Number x) = ⊥
IsWord (t.Quoted x) = ⊥

abbrev IsSign : Token → Type 0
IsSign (t.Symbol x) = Unit {0}
IsSign (t.Column x) = ⊥
IsSign (t.Operator x) = Unit {0}
IsSign (t.Name x) = ⊥
IsSign (t.Number x) = ⊥
IsSign (t.Quoted x) = ⊥

data Kind (text : List ℕ) (token : Token) : Type 0 where
  word : begins_with is_letter text ≡ true → IsWord token → Kind text token
  numeral : begins_with begins_number text ≡ true → is_number_text text ≡ true → token ≡ t.Number text → Kind text token
  quoted : (inside : List ℕ) → text ≡ 39 ∷ inside → is_string_rest inside ≡ true → token ≡ t.Quoted (unquoted inside) → Kind text token
  sign : IsSign token → Kind text token

some_is : (a b : Token) → ◌≡◌ {A = Option Token} (Some a) (Some b) → a ≡ b
some_is a b e = cc

word_of_kind : (text : List ℕ) (token : Token) (keyword : Option Symbol) (column : Option Column) (name : Bool) →
    option_or (option_map t.Symbol keyword) (option_or (option_map t.Column column) (cond name (Some (t.Name text)) None)) ≡ Some token → IsWord token
word_of_kind text token (Some keyword) column name e = subst IsWord (some_is (t.Symbol keyword) token e) tt
word_of_kind text token None (Some column) name e = subst IsWord (some_is (t.Column column) token e) tt
word_of_kind text token None None true e = subst IsWord (some_is (t.Name text) token e) tt
word_of_kind text token None None false e = absurd cc

letters_kind : (text : List ℕ) (token : Token) (all : Bool) → cond all (word_of text) None ≡ Some token → IsWord token
letters_kind text token true e = word_of_kind text token (read_keyword text) (read_column text) (is_name text) e
letters_kind text token false e = absurd cc

quoted_kind : (b : ℕ) (inside : List ℕ) (token : Token) (is : Bool) → eqb b 39 ≡ true → is_string_rest inside ≡ is → cond is (Some (t.Quoted (unquoted inside))) None ≡ Some token → Kind (b ∷ inside) token
quoted_kind b inside token true q h e = Kind.quoted inside (ap (λ (n : ℕ). n ∷ inside) (eqb-true b 39 q)) h (sym (some_is (t.Quoted (unquoted inside)) token e))
quoted_kind b inside token false q h e = absurd cc

number_kind : (text : List ℕ) (token : Token) (is : Bool) → begins_with begins_number text ≡ true → is_number_text text ≡ is → cond is (Some (t.Number text)) None ≡ Some token → Kind text token
number_kind text token true b h e = Kind.numeral b h (sym (some_is (t.Number text) token e))
number_kind text token false b h e = absurd cc

sign_kind : (text : List ℕ) (token : Token) (symbol : Option Symbol) (operator : Option ComparisonOperator) → option_or (option_map t.Symbol symbol) (option_map t.Operator operator) ≡ Some token → Kind text token
sign_kind text token (Some symbol) operator e = Kind.sign (subst IsSign (some_is (t.Symbol symbol) token e) tt)
sign_kind text token None (Some operator) e = Kind.sign (subst IsSign (some_is (t.Operator operator) token e) tt)
sign_kind text token None None e = absurd cc

number_starts : (letter quote number : Bool) → letter ≡ false → quote ≡ false → number ≡ true → (not letter && (not quote && number)) ≡ true
number_starts true quote number l q n = absurd cc
number_starts false true number l q n = absurd cc
number_starts false false number l q n = n

first_kind : (b : ℕ) (rest : List ℕ) (token : Token) (letter quote number : Bool) → is_letter b ≡ letter → eqb b 39 ≡ quote → (is_digit b || eqb b 45) ≡ number →
    cond letter (word_token (b ∷ rest)) (cond quote (string_token rest) (cond number (number_token (b ∷ rest)) (punctuation_token (b ∷ rest)))) ≡ Some token → Kind (b ∷ rest) token
first_kind b rest token true quote number l q n e = Kind.word l (letters_kind (b ∷ rest) token (is_all is_word_octet 64 (b ∷ rest)) e)
first_kind b rest token false true number l q n e = quoted_kind b rest token (is_string_rest rest) q refl e
first_kind b rest token false false true l q n e = number_kind (b ∷ rest) token (is_number_text (b ∷ rest)) (number_starts (is_letter b) (eqb b 39) (is_digit b || eqb b 45) l q n) refl e
first_kind b rest token false false false l q n e = sign_kind (b ∷ rest) token (read_punctuation (b ∷ rest)) (read_operator (b ∷ rest)) e

kind_of : (text : List ℕ) (token : Token) → token_of text ≡ Some token → Kind text token
kind_of [] token e = absurd cc
kind_of (b ∷ rest) token e = first_kind b rest token (is_letter b) (eqb b 39) (is_digit b || eqb b 45) refl refl refl e

-- ---- each token

name_first : (n rest : List ℕ) → token_of n ≡ Some (t.Name n) → Separated rest → Kind n (t.Name n) → IsFirstToken (n ++ rest) (length n) (t.Name n)
name_first n rest again apart (Kind.word letter is) = word_before n rest (t.Name n) letter again (no_word_octet rest apart)
name_first n rest again apart (Kind.numeral b h e) = absurd cc
name_first n rest again apart (Kind.quoted inside p h e) = absurd cc
name_first n rest again apart (Kind.sign is) = absurd is

number_first : (n rest : List ℕ) → Separated rest → Kind n (t.Number n) → IsFirstToken (n ++ rest) (length n) (t.Number n)
number_first n rest apart (Kind.word letter is) = absurd is
number_first n rest apart (Kind.numeral b h e) = number_before n rest b h (no_digit rest apart)
number_first n rest apart (Kind.quoted inside p h e) = absurd cc
number_first n rest apart (Kind.sign is) = absurd is

quoted_first : (q text rest : List ℕ) → Separated rest → Kind text (t.Quoted q) → IsFirstToken (text ++ rest) (length text) (t.Quoted q)
quoted_first q text rest apart (Kind.word letter is) = absurd is
quoted_first q text rest apart (Kind.numeral b h e) = absurd cc
quoted_first q text rest apart (Kind.quoted inside p h e) =
    subst (λ (xs : List ℕ). IsFirstToken (xs ++ rest) (length xs) (t.Quoted q)) (sym p)
    (subst (λ (x : Token). IsFirstToken ((39 ∷ inside) ++ rest) (length (39 ∷ inside)) x) (sym e) (string_before inside rest h (no_quote rest apart)))
quoted_first q text rest apart (Kind.sign is) = absurd is

pub token_before : (token : Token) (rest : List ℕ) → IsTokenOfText token → Separated rest → IsFirstToken (token_text token ++ rest) (length (token_text token)) token
token_before (t.Symbol symbol) rest real apart = symbol_before symbol rest apart
token_before (t.Column column) rest real apart = column_before column rest apart
token_before (t.Operator operator) rest real apart = operator_before operator rest apart
token_before (t.Name n) rest real apart = let again = token_again (t.Name n) real in name_first n rest again apart (kind_of n (t.Name n) again)
token_before (t.Number n) rest real apart = number_first n rest apart (kind_of n (t.Number n) (token_again (t.Number n) real))
token_before (t.Quoted q) rest real apart =
    let text = token_text (t.Quoted q) in
    quoted_first q text rest apart (kind_of text (t.Quoted q) (token_again (t.Quoted q) real))

-- ---- a token begins with no blank and no comment

blank_is_none : (b : ℕ) (xs : List ℕ) (space tab return : Bool) → eqb b 32 ≡ space → eqb b 9 ≡ tab → eqb b 13 ≡ return → (space || tab || return || eqb b 10) ≡ true → token_of (b ∷ xs) ≡ None
unfolding read_punctuation read_operator
blank_is_none b xs true tab return h k l e = subst (λ (n : ℕ). token_of (n ∷ xs) ≡ None) (sym (eqb-true b 32 h)) refl
blank_is_none b xs false true return h k l e = subst (λ (n : ℕ). token_of (n ∷ xs) ≡ None) (sym (eqb-true b 9 k)) refl
blank_is_none b xs false false true h k l e = subst (λ (n : ℕ). token_of (n ∷ xs) ≡ None) (sym (eqb-true b 13 l)) refl
blank_is_none b xs false false false h k l e = subst (λ (n : ℕ). token_of (n ∷ xs) ≡ None) (sym (eqb-true b 10 e)) refl

last_false : (a b d : Bool) → d ≡ false → (a && b && d) ≡ false
last_false true true d e = e
last_false true false d e = refl
last_false false b d e = refl

two_minus : (xs : List ℕ) → token_of (45 ∷ 45 ∷ xs) ≡ None
two_minus xs =
    let ys : List ℕ = 45 ∷ xs in
    cond-false (is_number_text (45 ∷ ys)) (Some (t.Number (45 ∷ ys))) None (last_false (nat_le 1 (length ys)) (nat_le (length ys) 20) (list_all is_digit ys) refl)

none_is_some : (token : Token) → ◌≡◌ {A = Option Token} None (Some token) → ⊥
none_is_some token e = cc

minus_goes : (b : ℕ) (xs rest : List ℕ) (token : Token) → token_of (b ∷ xs) ≡ Some token → eqb b 45 ≡ true → begins_with_minus (xs ++ rest) ≡ true → ⊥
minus_goes b [] rest token e h k = none_is_some token (ap (λ (n : ℕ). token_of (n ∷ [])) (sym (eqb-true b 45 h)) ∙ e)
minus_goes b (x ∷ xs) rest token e h k =
    none_is_some token (sym (two_minus xs) ∙ ap (λ (n : ℕ). token_of (45 ∷ n ∷ xs)) (sym (eqb-true x 45 k)) ∙ ap (λ (n : ℕ). token_of (n ∷ x ∷ xs)) (sym (eqb-true b 45 h)) ∙ e)

skip_at : (b : ℕ) (xs rest : List ℕ) (token : Token) → token_of (b ∷ xs) ≡ Some token → (blank minus more : Bool) → is_blank b ≡ blank → eqb b 45 ≡ minus → begins_with_minus (xs ++ rest) ≡ more →
    skip_blanks ((b ∷ xs) ++ rest) ≡ (b ∷ xs) ++ rest
skip_at b xs rest token e true minus more h k l = absurd (none_is_some token (sym (blank_is_none b xs (eqb b 32) (eqb b 9) (eqb b 13) refl refl refl h) ∙ e))
skip_at b xs rest token e false true true h k l = absurd (minus_goes b xs rest token e k l)
skip_at b xs rest token e false true false h k l =
    cond-false (is_blank b) (skip_blanks (xs ++ rest)) _ h ∙ cond-false (eqb b 45 && begins_with_minus (xs ++ rest)) (skip_comment (xs ++ rest)) (b ∷ (xs ++ rest)) (ap₂ (λ (u v : Bool). u && v) k l)
skip_at b xs rest token e false false more h k l =
    cond-false (is_blank b) (skip_blanks (xs ++ rest)) _ h ∙ cond-false (eqb b 45 && begins_with_minus (xs ++ rest)) (skip_comment (xs ++ rest)) (b ∷ (xs ++ rest)) (ap₂ (λ (u v : Bool). u && v) k l)

skip_text : (text rest : List ℕ) (token : Token) → token_of text ≡ Some token → skip_blanks (text ++ rest) ≡ text ++ rest
skip_text [] rest token e = absurd cc
skip_text (b ∷ xs) rest token e = skip_at b xs rest token e (is_blank b) (eqb b 45) (begins_with_minus (xs ++ rest)) refl refl refl

pub skip_none : (token : Token) (rest : List ℕ) → IsTokenOfText token → skip_blanks (token_text token ++ rest) ≡ token_text token ++ rest
skip_none token rest real = skip_text (token_text token) rest token (token_again token real)
