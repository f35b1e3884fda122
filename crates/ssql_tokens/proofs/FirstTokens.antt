-- The longest token at a front, by its first octet.
use Rattle.std.proofs.Common.{◌≡◌, ◌<◌, ◌≤◌, ◌+◌, ◌-◌, ℕ, zero, suc, Bool, true, false, cond, not, eqb, ltb, List, [], ◌∷◌, length, take, drop, get_or, map, find, Option, Some, None, option_map, is_some, slice_range, refl, sym, ap, subst, ◌∙◌, arith}
use Rattle.std.specs.Prelude.{◌||◌, ◌&&◌, nat_le}
use Rattle.std.specs.List.{list_all, prefix_len}
use Rattle.std.specs.Option.{option_or}
use Rattle.std.specs.Str.{str_eq_ignore_ascii_case}
use Rattle.std.specs.Char.{to_ascii_lowercase}
use Rattle.std.proofs.lemmas.Bool.{and_parts, or_left, cond-true, cond-false, false_from_ne_true, leb-true, ltb-true, ltb-false, both_ways, not-true}
use Rattle.std.proofs.lemmas.List.{drop_more, length-map, length-take-le}
use Rattle.std.proofs.lemmas.Slice.Eq.{bytes_eq-Decides}
use Rattle.text_forms.specs.Digits.{is_digit}
use Rattle.text_forms.specs.Names.{is_name, is_name_octet}
use Rattle.ssql_tokens.specs.declared.token.Token.{Token}
use Rattle.ssql_tokens.specs.declared.token.Token.TheVariants as t
use Rattle.ssql_tokens.specs.Symbols.{symbol_text, operator_text, punctuation, operators, read_keyword, read_column, read_punctuation, read_operator}
use Rattle.ssql_tokens.specs.TokenTexts.{is_letter, is_word_octet, is_all, name_token, word_of, word_token, is_number_text, number_token, is_string_rest, unquoted, string_token, punctuation_token, token_of, is_token}
use Rattle.ssql_tokens.specs.Longest.{IsLongest, HasNone, IsLongestIfAny}
use Rattle.ssql_tokens.specs.Lengths.{word_len, digits_len, number_len, one_longer, string_len}
use Rattle.ssql_tokens.specs.Tokens.{IsFirstToken}
use Rattle.ssql_tokens.specs.Tokenizing.{begins_with, begins_string, begins_number, begins_punctuation, pair_token}
use Rattle.ssql_tokens.proofs.LeadingLengths.{longest_run, any_run}
use Rattle.ssql_tokens.proofs.LongestStrings.{longer, longest_string}

-- ---- one test for another

IsLongest-as : (test other : List ℕ → Bool) (text : List ℕ) (len : ℕ) → ((m : ℕ) → other (take m text) ≡ test (take m text)) → IsLongest test text len → IsLongest other text len
IsLongest-as test other text len same h = record { within = h.within; passes = same len ∙ h.passes; longest = λ m lt le. same m ∙ h.longest m lt le }

IsLongestIfAny-as : (test other : List ℕ → Bool) (text : List ℕ) (o : Option ℕ) → ((m : ℕ) → other (take m text) ≡ test (take m text)) → IsLongestIfAny test text o → IsLongestIfAny other text o
IsLongestIfAny-as test other text None same h = λ m le. same m ∙ h m le
IsLongestIfAny-as test other text (Some len) same h = IsLongest-as test other text len same h

-- octets from a place of a text
pub cut_is : (text : List ℕ) (at len : ℕ) → slice_range text at (at + len) ≡ take len (drop at text)
cut_is text at len = let less : at + len - at ≡ len = omega arith in ap (λ (k : ℕ). take k (drop at text)) less

pub begins_at : (test : ℕ → Bool) (text : List ℕ) (at : ℕ) → at < length text → test (get_or text at 0) ≡ true → begins_with test (drop at text) ≡ true
begins_at test text at lt e = ap (begins_with test) (drop_more text at 0 lt) ∙ e

-- ---- the kinds, by the first octet

abbrev number_or_mark : ℕ → List ℕ → Option Token
number_or_mark b xs = cond (is_digit b || eqb b 45) (number_token (b ∷ xs)) (punctuation_token (b ∷ xs))

abbrev no_word : ℕ → List ℕ → Option Token
no_word b xs = cond (eqb b 39) (string_token xs) (number_or_mark b xs)

pub word_begins : (b : ℕ) (xs : List ℕ) → is_letter b ≡ true → token_of (b ∷ xs) ≡ word_token (b ∷ xs)
word_begins b xs e = cond-true (is_letter b) (word_token (b ∷ xs)) (no_word b xs) e

no_word_begins : (b : ℕ) (xs : List ℕ) → is_letter b ≡ false → token_of (b ∷ xs) ≡ no_word b xs
no_word_begins b xs e = cond-false (is_letter b) (word_token (b ∷ xs)) (no_word b xs) e

pub string_begins : (b : ℕ) (xs : List ℕ) → begins_string b ≡ true → token_of (b ∷ xs) ≡ string_token xs
string_begins b xs e =
    let parts = and_parts (not (is_letter b)) (eqb b 39) e in
    no_word_begins b xs (not-true (is_letter b) parts.0) ∙ cond-true (eqb b 39) (string_token xs) (number_or_mark b xs) parts.1

pub number_begins : (b : ℕ) (xs : List ℕ) → begins_number b ≡ true → token_of (b ∷ xs) ≡ number_token (b ∷ xs)
number_begins b xs e =
    let parts = and_parts (not (is_letter b)) (not (eqb b 39) && (is_digit b || eqb b 45)) e in
    let more = and_parts (not (eqb b 39)) (is_digit b || eqb b 45) parts.1 in
    no_word_begins b xs (not-true (is_letter b) parts.0) ∙ cond-false (eqb b 39) (string_token xs) (number_or_mark b xs) (not-true (eqb b 39) more.0)
    ∙ cond-true (is_digit b || eqb b 45) (number_token (b ∷ xs)) (punctuation_token (b ∷ xs)) more.1

pub mark_begins : (b : ℕ) (xs : List ℕ) → begins_punctuation b ≡ true → token_of (b ∷ xs) ≡ punctuation_token (b ∷ xs)
mark_begins b xs e =
    let parts = and_parts (not (is_letter b)) (not (eqb b 39) && not (is_digit b || eqb b 45)) e in
    let more = and_parts (not (eqb b 39)) (not (is_digit b || eqb b 45)) parts.1 in
    no_word_begins b xs (not-true (is_letter b) parts.0) ∙ cond-false (eqb b 39) (string_token xs) (number_or_mark b xs) (not-true (eqb b 39) more.0)
    ∙ cond-false (is_digit b || eqb b 45) (number_token (b ∷ xs)) (punctuation_token (b ∷ xs)) (not-true (is_digit b || eqb b 45) more.1)

-- ---- words

name_octet : (u l s d x y z : Bool) → ((u || l || s) || d) ≡ true → (l || u || d || s || x || y || z) ≡ true
name_octet u true s d x y z e = refl
name_octet true false s d x y z e = refl
name_octet false false s true x y z e = refl
name_octet false false true false x y z e = refl
name_octet false false false false x y z e = absurd cc

word_octet_names : (b : ℕ) → is_word_octet b ≡ true → is_name_octet b ≡ true
word_octet_names b e =
    name_octet (nat_le 65 b && nat_le b 90) (nat_le 97 b && nat_le b 122) (eqb b 95) (nat_le 48 b && nat_le b 57) (eqb b 46) (eqb b 47) (eqb b 45) e

all_names : (xs : List ℕ) → list_all is_word_octet xs ≡ true → list_all is_name_octet xs ≡ true
all_names [] e = refl
all_names (x ∷ xs) e =
    let parts = and_parts (is_word_octet x) (list_all is_word_octet xs) e in
    rw (word_octet_names x parts.0, all_names xs parts.1) refl

last_of_three : (a b c d : Bool) → (a && b && c) ≡ true → (c ≡ true → d ≡ true) → (a && b && d) ≡ true
last_of_three true true c d e h = h e
last_of_three true false c d e h = absurd cc
last_of_three false b c d e h = absurd cc

word_is_name : (xs : List ℕ) → is_all is_word_octet 64 xs ≡ true → is_name xs ≡ true
word_is_name xs e = last_of_three (nat_le 1 (length xs)) (nat_le (length xs) 64) (list_all is_word_octet xs) (list_all is_name_octet xs) e (all_names xs)

either_some : (o p : Option Token) → is_some p ≡ true → is_some (option_or o p) ≡ true
either_some None p e = e
either_some (Some x) p e = refl

word_is_some : (xs : List ℕ) → is_all is_word_octet 64 xs ≡ true → is_some (word_of xs) ≡ true
word_is_some xs e =
    let name : is_some (name_token xs) ≡ true = ap is_some (cond-true (is_name xs) (Some (t.Name xs)) None (word_is_name xs e)) in
    either_some (option_map t.Symbol (read_keyword xs)) (option_or (option_map t.Column (read_column xs)) (name_token xs)) (either_some (option_map t.Column (read_column xs)) (name_token xs) name)

-- a token under a test, where it is one if the test passes
tested : (c : Bool) (o : Option Token) → (c ≡ true → is_some o ≡ true) → is_some (cond c o None) ≡ c
tested true o h = h refl
tested false o h = refl

word_test : (b : ℕ) (rest : List ℕ) → is_letter b ≡ true → (m : ℕ) → is_token (take m (b ∷ rest)) ≡ is_all is_word_octet 64 (take m (b ∷ rest))
word_test b rest e zero = refl
word_test b rest e (suc m) =
    ap is_some (word_begins b (take m rest) e) ∙ tested (is_all is_word_octet 64 (b ∷ take m rest)) (word_of (b ∷ take m rest)) (word_is_some (b ∷ take m rest))

some_prefix : (c : Bool) (n : ℕ) → c ≡ true → 1 ≤ cond c (1 + n) 0
some_prefix true n e = omega arith
some_prefix false n e = absurd cc

run_of_word : (b : ℕ) (rest : List ℕ) → is_letter b ≡ true → IsLongest (is_all is_word_octet 64) (b ∷ rest) (word_len (b ∷ rest))
run_of_word b rest e = longest_run is_word_octet 64 (b ∷ rest) (omega arith) (some_prefix (is_word_octet b) (prefix_len is_word_octet rest) (or_left (is_letter b) (is_digit b) e))

spelled_word : (b : ℕ) (rest : List ℕ) → is_letter b ≡ true → (n : ℕ) → is_all is_word_octet 64 (take n (b ∷ rest)) ≡ true → token_of (take n (b ∷ rest)) ≡ word_of (take n (b ∷ rest))
spelled_word b rest e zero r = absurd cc
spelled_word b rest e (suc n) r = word_begins b (take n rest) e ∙ cond-true (is_all is_word_octet 64 (b ∷ take n rest)) (word_of (b ∷ take n rest)) None r

pub first_word : (text : List ℕ) → begins_with is_letter text ≡ true → (token : Token) → word_of (take (word_len text) text) ≡ Some token → IsFirstToken text (word_len text) token
first_word [] e token w = absurd cc
first_word (b ∷ rest) e token w =
    let run = run_of_word b rest e in
    record {
      spelled = spelled_word b rest e (word_len (b ∷ rest)) run.passes ∙ w;
      longest = IsLongest-as (is_all is_word_octet 64) is_token (b ∷ rest) (word_len (b ∷ rest)) (word_test b rest e) run;
    }

-- the longest word is a keyword, a column or a name
pub word_there : (text : List ℕ) → begins_with is_letter text ≡ true → word_of (take (word_len text) text) ≡ None → ⊥
word_there [] e w = absurd cc
word_there (b ∷ rest) e w = both_ways (is_some (word_of (take (word_len (b ∷ rest)) (b ∷ rest)))) (ap is_some w) (word_is_some (take (word_len (b ∷ rest)) (b ∷ rest)) (run_of_word b rest e).passes)

-- ---- numbers

number_test : (b : ℕ) (rest : List ℕ) → begins_number b ≡ true → (m : ℕ) → is_token (take m (b ∷ rest)) ≡ is_number_text (take m (b ∷ rest))
number_test b rest e zero = refl
number_test b rest e (suc m) =
    ap is_some (number_begins b (take m rest) e) ∙ tested (is_number_text (b ∷ take m rest)) (Some (t.Number (b ∷ take m rest))) (λ p. refl)

number_from : (b : ℕ) (rest : List ℕ) (c : Bool) → eqb b 45 ≡ c → IsLongestIfAny is_number_text (b ∷ rest) (number_len (b ∷ rest))
number_from b rest true e =
    subst (λ (o : Option ℕ). IsLongestIfAny is_number_text (b ∷ rest) o) (sym (cond-true (eqb b 45) (one_longer (digits_len rest)) (digits_len (b ∷ rest)) e))
    (longer is_number_text (is_all is_digit 20) b rest refl (λ xs. cond-true (eqb b 45) (is_all is_digit 20 xs) (is_all is_digit 20 (b ∷ xs)) e) (digits_len rest) (any_run is_digit 20 rest (omega arith)))
number_from b rest false e =
    subst (λ (o : Option ℕ). IsLongestIfAny is_number_text (b ∷ rest) o) (sym (cond-false (eqb b 45) (one_longer (digits_len rest)) (digits_len (b ∷ rest)) e))
    (IsLongestIfAny-as (is_all is_digit 20) is_number_text (b ∷ rest) (digits_len (b ∷ rest)) digits_test (any_run is_digit 20 (b ∷ rest) (omega arith)))
  where
    digits_test : (m : ℕ) → is_number_text (take m (b ∷ rest)) ≡ is_all is_digit 20 (take m (b ∷ rest))
    digits_test zero = refl
    digits_test (suc m) = cond-false (eqb b 45) (is_all is_digit 20 (take m rest)) (is_all is_digit 20 (b ∷ take m rest)) e

spelled_number : (b : ℕ) (rest : List ℕ) → begins_number b ≡ true → (n : ℕ) → is_number_text (take n (b ∷ rest)) ≡ true → token_of (take n (b ∷ rest)) ≡ Some (t.Number (take n (b ∷ rest)))
spelled_number b rest e zero r = absurd cc
spelled_number b rest e (suc n) r = number_begins b (take n rest) e ∙ cond-true (is_number_text (b ∷ take n rest)) (Some (t.Number (b ∷ take n rest))) None r

number_of_len : (b : ℕ) (rest : List ℕ) → begins_number b ≡ true → (len : ℕ) → number_len (b ∷ rest) ≡ Some len → IsFirstToken (b ∷ rest) len (t.Number (take len (b ∷ rest)))
number_of_len b rest e len l =
    let h : IsLongest is_number_text (b ∷ rest) len = subst (λ (o : Option ℕ). IsLongestIfAny is_number_text (b ∷ rest) o) l (number_from b rest (eqb b 45) refl) in
    record { spelled = spelled_number b rest e len h.passes; longest = IsLongest-as is_number_text is_token (b ∷ rest) len (number_test b rest e) h }

pub first_number : (text : List ℕ) → begins_with begins_number text ≡ true → (len : ℕ) → number_len text ≡ Some len → IsFirstToken text len (t.Number (take len text))
first_number [] e len l = absurd cc
first_number (b ∷ rest) e len l = number_of_len b rest e len l

pub no_number : (text : List ℕ) → begins_with begins_number text ≡ true → number_len text ≡ None → HasNone is_token text
no_number [] e l = absurd cc
no_number (b ∷ rest) e l =
    let h : HasNone is_number_text (b ∷ rest) = subst (λ (o : Option ℕ). IsLongestIfAny is_number_text (b ∷ rest) o) l (number_from b rest (eqb b 45) refl) in
    λ m le. number_test b rest e m ∙ h m le

-- ---- strings

string_test : (b : ℕ) → begins_string b ≡ true → (xs : List ℕ) → is_token (b ∷ xs) ≡ is_string_rest xs
string_test b e xs = ap is_some (string_begins b xs e) ∙ tested (is_string_rest xs) (Some (t.Quoted (unquoted xs))) (λ p. refl)

string_from : (b : ℕ) (rest : List ℕ) → begins_string b ≡ true → IsLongestIfAny is_token (b ∷ rest) (one_longer (string_len rest))
string_from b rest e = longer is_token is_string_rest b rest refl (string_test b e) (string_len rest) (longest_string rest)

pub first_string : (text : List ℕ) → begins_with begins_string text ≡ true → (len : ℕ) → string_len (drop 1 text) ≡ Some len → IsFirstToken text (len + 1) (t.Quoted (unquoted (take len (drop 1 text))))
first_string [] e len l = absurd cc
first_string (b ∷ rest) e len l =
    let h : IsLongest is_token (b ∷ rest) (len + 1) = subst (λ (o : Option ℕ). IsLongestIfAny is_token (b ∷ rest) (one_longer o)) l (string_from b rest e) in
    let inside : IsLongest is_string_rest rest len = subst (λ (o : Option ℕ). IsLongestIfAny is_string_rest rest o) l (longest_string rest) in
    let more : len + 1 ≡ suc len = omega arith in
    record {
      spelled = ap (λ (k : ℕ). token_of (take k (b ∷ rest))) more ∙ string_begins b (take len rest) e ∙ cond-true (is_string_rest (take len rest)) (Some (t.Quoted (unquoted (take len rest)))) None inside.passes;
      longest = h;
    }

pub no_string : (text : List ℕ) → begins_with begins_string text ≡ true → string_len (drop 1 text) ≡ None → HasNone is_token text
no_string [] e l = absurd cc
no_string (b ∷ rest) e l = subst (λ (o : Option ℕ). IsLongestIfAny is_token (b ∷ rest) (one_longer o)) l (string_from b rest e)

-- ---- punctuation and operators have one or two octets

differs : (a octets : List ℕ) → length a < length octets → str_eq_ignore_ascii_case a octets ≡ false
differs a octets lt =
    false_from_ne_true (str_eq_ignore_ascii_case a octets) (λ e.
    let same : map to_ascii_lowercase a ≡ map to_ascii_lowercase octets = (bytes_eq-Decides (map to_ascii_lowercase a) (map to_ascii_lowercase octets)).0 e in
    absurd (omega (arith, lt, ap length same, length-map a to_ascii_lowercase, length-map octets to_ascii_lowercase)))

none_found : {X : Type 0} (text_of : X → List ℕ) (xs : List X) (octets : List ℕ) → list_all (λ x. nat_le (length (text_of x)) 2) xs ≡ true → 2 < length octets →
    find (λ k. str_eq_ignore_ascii_case (text_of k) octets) xs ≡ None
none_found text_of [] octets all lt = refl
none_found text_of (x ∷ xs) octets all lt =
    let parts = and_parts (nat_le (length (text_of x)) 2) (list_all (λ x. nat_le (length (text_of x)) 2) xs) all in
    cond-false (str_eq_ignore_ascii_case (text_of x) octets) (Some x) (find (λ k. str_eq_ignore_ascii_case (text_of k) octets) xs) (differs (text_of x) octets (omega (arith, lt, leb-true (length (text_of x)) 2 parts.0)))
    ∙ none_found text_of xs octets parts.1 lt

no_long_mark : (octets : List ℕ) → 2 < length octets → read_punctuation octets ≡ None
unfolding read_punctuation
no_long_mark octets lt = none_found symbol_text punctuation octets refl lt

no_long_operator : (octets : List ℕ) → 2 < length octets → read_operator octets ≡ None
unfolding read_operator
no_long_operator octets lt = none_found operator_text operators octets refl lt

no_long : (octets : List ℕ) → 2 < length octets → punctuation_token octets ≡ None
no_long octets lt = rw (no_long_mark octets lt, no_long_operator octets lt) refl

mark_taken : (b : ℕ) (rest : List ℕ) → begins_punctuation b ≡ true → (n : ℕ) → 1 ≤ n → token_of (take n (b ∷ rest)) ≡ punctuation_token (take n (b ∷ rest))
mark_taken b rest e zero one = absurd (omega arith)
mark_taken b rest e (suc n) one = mark_begins b (take n rest) e

-- nothing beyond two octets, where nothing of two is punctuation nothing beyond one
beyond_two : (b : ℕ) (rest : List ℕ) → begins_punctuation b ≡ true → (m : ℕ) → 2 < m → m ≤ length (b ∷ rest) → is_token (take m (b ∷ rest)) ≡ false
beyond_two b rest e m lt le =
    ap is_some (mark_taken b rest e m (omega arith) ∙ no_long (take m (b ∷ rest)) (omega (arith, lt, length-take-le m (b ∷ rest) le)))

pair_is : (text : List ℕ) (c : Bool) → ltb 1 (length text) ≡ c → 2 ≤ length text → pair_token text ≡ punctuation_token (take 2 text)
pair_is text true e le = cond-true (ltb 1 (length text)) (punctuation_token (take 2 text)) None e
pair_is text false e le = absurd (omega (arith, ltb_end (length text) e))
  where
    ltb_end : (n : ℕ) → ltb 1 n ≡ false → n ≤ 1
    ltb_end n f = ltb-false 1 n f

beyond_one : (b : ℕ) (rest : List ℕ) → begins_punctuation b ≡ true → pair_token (b ∷ rest) ≡ None → (m : ℕ) → 1 < m → m ≤ length (b ∷ rest) → is_token (take m (b ∷ rest)) ≡ false
beyond_one b rest e none zero lt le = absurd (omega arith)
beyond_one b rest e none (suc zero) lt le = absurd (omega arith)
beyond_one b rest e none (suc (suc zero)) lt le =
    ap is_some (mark_begins b (take 1 rest) e ∙ sym (pair_is (b ∷ rest) (ltb 1 (length (b ∷ rest))) refl (omega arith)) ∙ none)
beyond_one b rest e none (suc (suc (suc m))) lt le = beyond_two b rest e (suc (suc (suc m))) (omega arith) le

pub first_pair : (text : List ℕ) → begins_with begins_punctuation text ≡ true → (token : Token) → pair_token text ≡ Some token → IsFirstToken text 2 token
first_pair [] e token p = absurd cc
first_pair (b ∷ rest) e token p = by_len (ltb 1 (length (b ∷ rest))) refl
  where
    by_len : (c : Bool) → ltb 1 (length (b ∷ rest)) ≡ c → IsFirstToken (b ∷ rest) 2 token
    by_len true l =
        let spells : punctuation_token (take 2 (b ∷ rest)) ≡ Some token = sym (cond-true (ltb 1 (length (b ∷ rest))) (punctuation_token (take 2 (b ∷ rest))) None l) ∙ p in
        let read : token_of (take 2 (b ∷ rest)) ≡ Some token = mark_begins b (take 1 rest) e ∙ spells in
        record {
          spelled = read;
          longest = record { within = omega (arith, ltb-true 1 (length (b ∷ rest)) l); passes = ap is_some read; longest = beyond_two b rest e };
        }
    by_len false l =
        let none : ◌≡◌ {A = Option Token} None (Some token) = sym (cond-false (ltb 1 (length (b ∷ rest))) (punctuation_token (take 2 (b ∷ rest))) None l) ∙ p in
        absurd cc

pub first_mark : (text : List ℕ) → begins_with begins_punctuation text ≡ true → pair_token text ≡ None → (token : Token) → punctuation_token (take 1 text) ≡ Some token → IsFirstToken text 1 token
first_mark [] e none token m = absurd cc
first_mark (b ∷ rest) e none token m =
    let read : token_of (take 1 (b ∷ rest)) ≡ Some token = mark_begins b [] e ∙ m in
    record { spelled = read; longest = record { within = omega arith; passes = ap is_some read; longest = beyond_one b rest e none } }

pub no_mark : (text : List ℕ) → begins_with begins_punctuation text ≡ true → pair_token text ≡ None → punctuation_token (take 1 text) ≡ None → HasNone is_token text
no_mark [] e none m = absurd cc
no_mark (b ∷ rest) e none m = at_len
  where
    at_len : (n : ℕ) → n ≤ length (b ∷ rest) → is_token (take n (b ∷ rest)) ≡ false
    at_len zero le = refl
    at_len (suc zero) le = ap is_some (mark_begins b [] e ∙ m)
    at_len (suc (suc n)) le = beyond_one b rest e none (suc (suc n)) (omega arith) le
