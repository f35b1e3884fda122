-- Values behind and before symbols, and predicates.
use Rattle.std.proofs.Common.{◌≡◌, ℕ, Bool, true, false, List, [], ◌∷◌, ◌++◌, Option, Some, codes, ◌⊎◌, inl, inr, refl, ap, arith}
use Rattle.ssql_tokens.specs.declared.token.Token.{Token}
use Rattle.ssql_tokens.specs.declared.token.Token.TheVariants as t
use Rattle.ssql_tokens.specs.declared.symbols.Symbol.{Symbol}
use Rattle.ssql_tokens.specs.Symbols.{column_text, operator_text, read_keyword, read_column}
use Rattle.ssql_tokens.specs.Written.{IsTokenOfText, AreOfTexts}
use Rattle.ssql_tokens.proofs.WrittenTokens.{column_again, operator_again}
use Rattle.ssql_tokens.specs.declared.symbols.Symbol.TheVariants as w
use Rattle.ssql_tokens.specs.declared.symbols.Column.{Column}
use Rattle.ssql_tokens.specs.declared.symbols.Column.TheVariants as col
use Rattle.ssql_tokens.specs.declared.symbols.ComparisonOperator.{ComparisonOperator}
use Rattle.ssql_tokens.specs.declared.symbols.ComparisonOperator.TheVariants as op
use Rattle.ssql_parse.specs.declared.condition.Literal.{Literal}
use Rattle.ssql_parse.specs.declared.condition.Literal.TheVariants as l
use Rattle.ssql_parse.specs.declared.condition.Test.{Test}
use Rattle.ssql_parse.specs.declared.condition.Test.TheVariants as a
use Rattle.ssql_parse.specs.declared.condition.Predicate.{Predicate}
use Rattle.ssql_parse.specs.Reading.{TokenReader, behind, before, begins, taken, listed}
use Rattle.ssql_parse.specs.Exact.{IsExactReader, anything}
use Rattle.ssql_parse.specs.Grammar.{with_commas, HasItems, literal_token, test_tokens, IsTest, predicate_tokens}
use Rattle.ssql_parse.specs.Pieces.{as_column, as_operator, as_literal, as_name, as_number, one_of, test_at, predicate_of, predicate_at}
use Rattle.ssql_parse.proofs.Exactness.{IsExact-taken, IsExact-both, IsExact-mapped, IsExact-as, IsExact-either}
use Rattle.ssql_parse.proofs.SymbolReading.{IsExact-expect, IsExact-listed, no_comma, symbol_real}

module _ {A : Type 0} {IsA : A → Type 0} {sA : A → List Token} {stops : Option Token → Bool} {rA : TokenReader A} (exact : IsExactReader IsA sA stops rA) (some : A) (is_some : IsA some) (some_real : AreOfTexts (sA some)) (word : Symbol) where
  pub IsExact-behind : IsExactReader IsA (λ (x : A). t.Symbol word ∷ sA x) stops (behind word rA)
  IsExact-behind = IsExact-mapped (IsExact-both (IsExact-expect word) exact some is_some some_real (λ b rest is s. refl)) IsA (λ (x : A). t.Symbol word ∷ sA x) (λ p. p.1) (λ p is. (is.1, refl)) (λ b is. ((tt, b), (tt, is), refl))

  pub IsExact-before : stops (Some (t.Symbol word)) ≡ true → IsExactReader IsA (λ (x : A). sA x ++ t.Symbol word ∷ []) anything (before word rA)
  IsExact-before may = IsExact-mapped (IsExact-both exact (IsExact-expect word) tt tt (symbol_real word, tt) (λ b rest is s. may)) IsA (λ (x : A). sA x ++ t.Symbol word ∷ []) (λ p. p.0) (λ p is. (is.0, refl)) (λ b is. ((b, tt), (is, tt), refl))

-- ---- kinds of tokens

column_is : (x : Token) (c : Column) → as_column x ≡ Some c → x ≡ t.Column c
column_is (t.Symbol x) c e = absurd cc
column_is (t.Column x) c e = let is : x ≡ c = cc in ap (λ v. t.Column v) is
column_is (t.Operator x) c e = absurd cc
column_is (t.Name x) c e = absurd cc
column_is (t.Number x) c e = absurd cc
column_is (t.Quoted x) c e = absurd cc

operator_is : (x : Token) (o : ComparisonOperator) → as_operator x ≡ Some o → x ≡ t.Operator o
operator_is (t.Symbol x) c e = absurd cc
operator_is (t.Column x) c e = absurd cc
operator_is (t.Operator x) c e = let is : x ≡ c = cc in ap (λ v. t.Operator v) is
operator_is (t.Name x) c e = absurd cc
operator_is (t.Number x) c e = absurd cc
operator_is (t.Quoted x) c e = absurd cc

name_is : (x : Token) (n : List ℕ) → as_name x ≡ Some n → x ≡ t.Name n
name_is (t.Symbol x) c e = absurd cc
name_is (t.Column x) c e = absurd cc
name_is (t.Operator x) c e = absurd cc
name_is (t.Name x) c e = let is : x ≡ c = cc in ap (λ v. t.Name v) is
name_is (t.Number x) c e = absurd cc
name_is (t.Quoted x) c e = absurd cc

number_is : (x : Token) (n : List ℕ) → as_number x ≡ Some n → x ≡ t.Number n
number_is (t.Symbol x) c e = absurd cc
number_is (t.Column x) c e = absurd cc
number_is (t.Operator x) c e = absurd cc
number_is (t.Name x) c e = absurd cc
number_is (t.Number x) c e = let is : x ≡ c = cc in ap (λ v. t.Number v) is
number_is (t.Quoted x) c e = absurd cc

some_literal : (x y : Literal) → ◌≡◌ {A = Option Literal} (Some x) (Some y) → x ≡ y
some_literal x y e = cc

literal_is : (x : Token) (y : Literal) → as_literal x ≡ Some y → x ≡ literal_token y
literal_is (t.Symbol x) y e = absurd cc
literal_is (t.Column x) y e = absurd cc
literal_is (t.Operator x) y e = absurd cc
literal_is (t.Name x) y e = absurd cc
literal_is (t.Number x) y e = ap literal_token (some_literal (l.Number x) y e)
literal_is (t.Quoted x) y e = ap literal_token (some_literal (l.Quoted x) y e)

literal_again : (y : Literal) → as_literal (literal_token y) ≡ Some y
literal_again (l.Number n) = refl
literal_again (l.Quoted q) = refl

-- ---- tokens that texts spell, one of each kind

column_real : (column : Column) → IsTokenOfText (t.Column column)
column_real column = (column_text column, column_again column)

operator_real : (operator : ComparisonOperator) → IsTokenOfText (t.Operator operator)
operator_real operator = (operator_text operator, operator_again operator)

pub name_real : IsTokenOfText (t.Name (codes "tm"))
unfolding read_keyword read_column
name_real = (codes "tm", refl)

pub number_real : IsTokenOfText (t.Number (codes "1"))
number_real = (codes "1", refl)

-- an operator and a number
test_real : AreOfTexts (test_tokens (a.Compare op.Equal (l.Number (codes "1"))))
test_real = (operator_real op.Equal, (number_real, tt))

-- a column, an operator and a number
pub predicate_real : AreOfTexts (predicate_tokens (record { column = col.Link; test = a.Compare op.Equal (l.Number (codes "1")) }))
predicate_real = (column_real col.Link, test_real)

pub IsExact-column : IsExactReader (λ (c : Column). Unit {0}) (λ (c : Column). t.Column c ∷ []) anything (taken as_column)
IsExact-column = IsExact-taken as_column t.Column (λ c. refl) column_is col.Link (column_real col.Link)

pub IsExact-columns : IsExactReader HasItems (with_commas t.Column) no_comma (listed as_column)
IsExact-columns = IsExact-listed as_column t.Column (λ c. refl) column_is col.Link (column_real col.Link)

pub IsExact-name : IsExactReader (λ (n : List ℕ). Unit {0}) (λ (n : List ℕ). t.Name n ∷ []) anything (taken as_name)
IsExact-name = IsExact-taken as_name t.Name (λ c. refl) name_is (codes "tm") name_real

pub IsExact-names : IsExactReader HasItems (with_commas t.Name) no_comma (listed as_name)
IsExact-names = IsExact-listed as_name t.Name (λ c. refl) name_is (codes "tm") name_real

pub IsExact-number : IsExactReader (λ (n : List ℕ). Unit {0}) (λ (n : List ℕ). t.Number n ∷ []) anything (taken as_number)
IsExact-number = IsExact-taken as_number t.Number (λ c. refl) number_is (codes "1") number_real

-- ---- tests

abbrev IsAny : Test → Type 0
IsAny (a.Compare o x) = ⊥
IsAny (a.In xs) = HasItems xs

abbrev IsOne : Test → Type 0
IsOne (a.Compare o x) = Unit {0}
IsOne (a.In xs) = ⊥

each_any : (x : Test) → IsAny x → (xs : List Literal) × HasItems xs × (a.In xs ≡ x)
each_any (a.Compare o x) is = absurd is
each_any (a.In xs) is = (xs, is, refl)

each_one : (x : Test) → IsOne x → (p : ComparisonOperator × Literal) × (Unit {0} × Unit {0}) × (one_of p ≡ x)
each_one (a.Compare o x) is = ((o, x), (tt, tt), refl)
each_one (a.In xs) is = absurd is

lead_any : (x : Test) (rest : List Token) → IsAny x → true ≡ true → begins w.In (test_tokens x ++ rest) ≡ true
lead_any (a.Compare o x) rest is may = absurd is
lead_any (a.In xs) rest is may = refl

lead_one : (x : Test) (rest : List Token) → IsOne x → true ≡ true → begins w.In (test_tokens x ++ rest) ≡ false
lead_one (a.Compare o x) rest is may = refl
lead_one (a.In xs) rest is may = absurd is

to_test : (x : Test) → IsAny x ⊎ IsOne x → IsTest x
to_test (a.Compare o x) is = tt
to_test (a.In xs) (inl is) = is
to_test (a.In xs) (inr is) = absurd is

of_test : (x : Test) → IsTest x → IsAny x ⊎ IsOne x
of_test (a.Compare o x) is = inr tt
of_test (a.In xs) is = inl is

IsExact-literal : IsExactReader (λ (y : Literal). Unit {0}) (λ (y : Literal). literal_token y ∷ []) anything (taken as_literal)
IsExact-literal = IsExact-taken as_literal literal_token literal_again literal_is (l.Number (codes "1")) number_real

IsExact-literals : IsExactReader HasItems (with_commas literal_token) no_comma (listed as_literal)
IsExact-literals = IsExact-listed as_literal literal_token literal_again literal_is (l.Number (codes "1")) number_real

pub IsExact-test : IsExactReader IsTest test_tokens anything test_at
unfolding test_at
IsExact-test =
    let some : List Literal = l.Number (codes "1") ∷ [] in
    let is_some : HasItems some = omega arith in
    let inside = IsExact-before IsExact-literals some is_some (number_real, tt) w.CloseParen refl in
    let brackets = IsExact-behind (IsExact-behind inside some is_some (number_real, (symbol_real w.CloseParen, tt)) w.OpenParen) some is_some
    (symbol_real w.OpenParen, (number_real, (symbol_real w.CloseParen, tt))) w.In in
    let any = IsExact-mapped brackets IsAny test_tokens a.In (λ xs is. (is, refl)) each_any in
    let one = IsExact-mapped (IsExact-both (IsExact-taken as_operator t.Operator (λ c. refl) operator_is op.Equal (operator_real op.Equal)) IsExact-literal (l.Number (codes "1")) tt (number_real, tt) (λ b rest is s. refl)) IsOne test_tokens one_of (λ p is. (tt, refl)) each_one in
    IsExact-as (IsExact-either w.In any one lead_any lead_one) IsTest anything to_test of_test (λ o may. refl)

pub IsExact-predicate : IsExactReader (λ (x : Predicate). IsTest x.test) predicate_tokens anything predicate_at
unfolding predicate_at
IsExact-predicate =
    IsExact-mapped (IsExact-both IsExact-column IsExact-test (a.Compare op.Equal (l.Number (codes "1"))) tt test_real (λ b rest is s. refl))
    (λ (x : Predicate). IsTest x.test) predicate_tokens predicate_of (λ p is. (is.1, refl)) (λ x is. ((x.column, x.test), (tt, is), refl))
