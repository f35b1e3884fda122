-- Words, and lists with commas.
use Rattle.std.proofs.Common.{◌≡◌, ℕ, zero, suc, Bool, true, false, cond, List, [], ◌∷◌, ◌++◌, length, Option, Some, None, Ok, Err, refl, sym, ap, subst, ◌∙◌, arith}
use denote.Enum.Bare.{same_true, true_same}
use Rattle.ssql_tokens.specs.contracts.symbols.Symbol.{the_type}
use Rattle.ssql_tokens.specs.declared.token.Token.{Token}
use Rattle.ssql_tokens.specs.declared.token.Token.TheVariants as t
use Rattle.ssql_tokens.specs.declared.symbols.Symbol.{Symbol}
use Rattle.ssql_tokens.specs.declared.symbols.Symbol.TheVariants as w
use Rattle.ssql_tokens.specs.SymbolTests.{same_symbol, is_symbol}
use Rattle.ssql_tokens.specs.Symbols.{symbol_text}
use Rattle.ssql_tokens.specs.Written.{IsTokenOfText, AreOfTexts}
use Rattle.ssql_tokens.proofs.WrittenTokens.{symbol_again}
use Rattle.ssql_parse.specs.Reading.{ReaderResult, ◌>>◌, next_token, this_symbol, expect, listed, listed_from}
use Rattle.ssql_parse.specs.Exact.{HasStopped, HasRead, IsExactReader, anything}
use Rattle.ssql_parse.specs.Grammar.{with_commas, comma_before_each, HasItems}
use Rattle.ssql_parse.proofs.Exactness.{bind_ok, BindErr, bind_err, ok_is, err_is, IsExact-taken}

pub same_refl : (word : Symbol) → same_symbol word word ≡ true
same_refl word = true_same the_type word word refl

pub word_is : (word : Symbol) (u : Unit {0}) → this_symbol word (t.Symbol word) ≡ Some u
word_is word u = rw (same_refl word) refl

only : (b : Bool) (u : Unit {0}) → cond b (Some tt) None ≡ Some u → b ≡ true
only true u e = refl
only false u e = absurd cc

pub is_that_symbol : (word : Symbol) (x : Token) → is_symbol word x ≡ true → x ≡ t.Symbol word
is_that_symbol word (t.Symbol found) e = ap (λ v. t.Symbol v) (same_true the_type tt found word e)
is_that_symbol word (t.Column c) e = absurd cc
is_that_symbol word (t.Operator o) e = absurd cc
is_that_symbol word (t.Name n) e = absurd cc
is_that_symbol word (t.Number n) e = absurd cc
is_that_symbol word (t.Quoted q) e = absurd cc

pub symbol_real : (word : Symbol) → IsTokenOfText (t.Symbol word)
symbol_real word = (symbol_text word, symbol_again word)

pub IsExact-expect : (word : Symbol) → IsExactReader (λ (u : Unit {0}). Unit {0}) (λ (u : Unit {0}). t.Symbol word ∷ []) anything (expect word)
unfolding expect
IsExact-expect word = IsExact-taken (this_symbol word) (λ u. t.Symbol word) (word_is word) (λ x u e. is_that_symbol word x (only (is_symbol word x) u e)) tt (symbol_real word)

-- ---- lists with commas

-- no comma comes next
abbrev pub no_comma : Option Token → Bool
no_comma None = true
no_comma (Some x) = cond (is_symbol w.Comma x) false true

module _ {A : Type 0} (kind : Token → Option A) (word : A → Token) (kind-word : (a : A) → kind (word a) ≡ Some a) (word-kind : (t : Token) (a : A) → kind t ≡ Some a → t ≡ word a) (some : A) (some_real : IsTokenOfText (word some)) where
  not_comma : (b : Bool) → cond b false true ≡ true → b ≡ false
  not_comma true e = absurd cc
  not_comma false e = refl

  -- what was read before the end, or before a token that is no comma
  from_end : (x : A) (rest : List Token) → no_comma (next_token rest) ≡ true → listed_from kind (Some x) rest ≡ Ok (x ∷ [], rest)
  from_end x [] may = refl
  from_end x (u ∷ us) may = rw (not_comma (is_symbol w.Comma u) may) refl

  from_again : (x : A) (xs : List A) (rest : List Token) → no_comma (next_token rest) ≡ true → listed_from kind (Some x) (comma_before_each word xs ++ rest) ≡ Ok (x ∷ xs, rest)
  from_again x [] rest may = from_end x rest may
  from_again x (y ∷ ys) rest may = rw (kind-word y, from_again y ys rest may) refl

  listed_again : (xs : List A) (rest : List Token) → HasItems xs → no_comma (next_token rest) ≡ true → listed kind (with_commas word xs ++ rest) ≡ Ok (xs, rest)
  listed_again [] rest is may = absurd (omega arith)
  listed_again (x ∷ xs) rest is may = rw (kind-word x) (from_again x xs rest may)

  -- what a list that goes on from its first item reads
  record FromTakes (x : A) (tokens : List Token) (y : List A × List Token) : Type 0 where
    more : List A
    is : y.0 ≡ x ∷ more
    parts : tokens ≡ comma_before_each word more ++ y.1
    firm : (z : List Token) → next_token z ≡ next_token y.1 → listed_from kind (Some x) (comma_before_each word more ++ z) ≡ Ok (x ∷ more, z)

  record FromStuck (x : A) (tokens : List Token) (left : ℕ) : Type 0 where
    front : List Token
    rest : List Token
    parts : tokens ≡ front ++ rest
    place : left ≡ length rest
    xs : List A
    more : List Token
    begun : comma_before_each word xs ≡ front ++ more
    real : AreOfTexts more
    firm : (z : List Token) → next_token z ≡ next_token rest → listed_from kind (Some x) (front ++ z) ≡ Err (length z)

  same_next : (z rest : List Token) → next_token z ≡ next_token rest → no_comma (next_token rest) ≡ true → no_comma (next_token z) ≡ true
  same_next z rest n may = ap no_comma n ∙ may

  end_takes : (x : A) (tokens : List Token) (y : List A × List Token) → no_comma (next_token tokens) ≡ true → ◌≡◌ {A = ReaderResult (List A)} (Ok (x ∷ [], tokens)) (Ok y) → FromTakes x tokens y
  end_takes x tokens y may e =
      subst (λ (v : List A × List Token). FromTakes x tokens v) (ok_is (x ∷ [], tokens) y e)
      (record { more = []; is = refl; parts = refl; firm = λ z n. from_end x z (same_next z tokens n may) })

  comma : (u : Token) → is_symbol w.Comma u ≡ true → u ≡ t.Symbol w.Comma
  comma u e = is_that_symbol w.Comma u e

  no_comma_at : (u : Token) → is_symbol w.Comma u ≡ false → no_comma (Some u) ≡ true
  no_comma_at u e = rw e refl

  -- a list that goes on behind a comma, given what the list behind the next item reads
  takes_in : (x : A) (u v : Token) (vs : List Token) (y : List A × List Token) → ((a : A) (z : List A × List Token) → listed_from kind (Some a) vs ≡ Ok z → FromTakes a vs z) →
      is_symbol w.Comma u ≡ true → (o : Option A) → kind v ≡ o → (p : List A × List Token) → listed_from kind o vs ≡ Ok p → ◌≡◌ {A = ReaderResult (List A)} (Ok (x ∷ p.0, p.1)) (Ok y) → FromTakes x (u ∷ v ∷ vs) y
  takes_in x u v vs y again c None k p l e = absurd cc
  takes_in x u v vs y again c (Some a) k p l e =
      let h = again a p l in
      subst (λ (r : List A × List Token). FromTakes x (u ∷ v ∷ vs) r) (ok_is (x ∷ p.0, p.1) y e)
      (record {
        more = a ∷ h.more;
        is = ap (λ (r : List A). x ∷ r) h.is;
        parts = ap (λ (r : Token). r ∷ v ∷ vs) (comma u c) ∙ ap (λ (r : Token). t.Symbol w.Comma ∷ r ∷ vs) (word-kind v a k) ∙ ap (λ (r : List Token). t.Symbol w.Comma ∷ word a ∷ r) h.parts;
        firm = λ z n. rw (kind-word a, h.firm z n) refl;
      })

  takes_at : (x : A) (u v : Token) (vs : List Token) (b : Bool) (y : List A × List Token) → ((a : A) (z : List A × List Token) → listed_from kind (Some a) vs ≡ Ok z → FromTakes a vs z) →
      is_symbol w.Comma u ≡ b → cond b (listed kind (v ∷ vs) >> λ more. Ok (x ∷ more.0, more.1)) (Ok (x ∷ [], u ∷ v ∷ vs)) ≡ Ok y → FromTakes x (u ∷ v ∷ vs) y
  takes_at x u v vs false y again c e = end_takes x (u ∷ v ∷ vs) y (no_comma_at u c) e
  takes_at x u v vs true y again c e =
      let q = bind_ok (listed kind (v ∷ vs)) (λ more. Ok (x ∷ more.0, more.1)) y e in
      takes_in x u v vs y again c (kind v) refl q.0 q.1 q.2

  takes_last : (x : A) (u : Token) (b : Bool) (y : List A × List Token) → is_symbol w.Comma u ≡ b → cond b (Err zero) (Ok (x ∷ [], u ∷ [])) ≡ Ok y → FromTakes x (u ∷ []) y
  takes_last x u false y c e = end_takes x (u ∷ []) y (no_comma_at u c) e
  takes_last x u true y c e = absurd cc

  from_takes : (x : A) (tokens : List Token) (y : List A × List Token) → listed_from kind (Some x) tokens ≡ Ok y → FromTakes x tokens y
  from_takes x [] y e = end_takes x [] y refl e
  from_takes x (u ∷ []) y e = takes_last x u (is_symbol w.Comma u) y refl e
  from_takes x (u ∷ v ∷ vs) y e = takes_at x u v vs (is_symbol w.Comma u) y (λ a z l. from_takes a vs z l) refl e

  listed_takes : (tokens : List Token) (y : List A × List Token) → listed kind tokens ≡ Ok y → HasRead HasItems (with_commas word) (listed kind) tokens y
  listed_takes [] y e = absurd cc
  listed_takes (v ∷ vs) y e = listed_takes_kind v vs y (kind v) refl e
    where
      listed_takes_kind : (v : Token) (vs : List Token) (y : List A × List Token) (o : Option A) → kind v ≡ o → listed_from kind o vs ≡ Ok y → HasRead HasItems (with_commas word) (listed kind) (v ∷ vs) y
      listed_takes_kind v vs y None k l = absurd cc
      listed_takes_kind v vs y (Some a) k l =
          let h = from_takes a vs y l in
          let made : List A × List Token = (a ∷ h.more, y.1) in
          let same : made ≡ y = ap (λ (xs : List A). (xs, y.1)) (sym h.is) in
          subst (λ (r : List A × List Token). HasRead HasItems (with_commas word) (listed kind) (v ∷ vs) r) same
          (record {
            parts = ap (λ (r : Token). r ∷ vs) (word-kind v a k) ∙ ap (λ (r : List Token). word a ∷ r) h.parts;
            is = omega arith;
            firm = λ z n. rw (kind-word a) (h.firm z n);
          })

  -- ---- where it stops

  stuck_end : (y : List Token) → next_token y ≡ None → listed kind y ≡ Err (length y)
  stuck_end [] e = refl
  stuck_end (u ∷ us) e = absurd cc

  stuck_at : (v : Token) → kind v ≡ None → (y : List Token) → next_token y ≡ Some v → listed kind y ≡ Err (length y)
  stuck_at v k [] e = absurd cc
  stuck_at v k (u ∷ us) e =
      let same : u ≡ v = cc in
      let none : kind u ≡ None = ap kind same ∙ k in
      rw none refl

  stuck_in : (x : A) (u v : Token) (vs : List Token) (left : ℕ) → ((a : A) (n : ℕ) → listed_from kind (Some a) vs ≡ Err n → FromStuck a vs n) →
      is_symbol w.Comma u ≡ true → (o : Option A) → kind v ≡ o → listed_from kind o vs ≡ Err left → FromStuck x (u ∷ v ∷ vs) left
  stuck_in x u v vs left again c None k l = record {
    front = t.Symbol w.Comma ∷ [];
    rest = v ∷ vs;
    parts = ap (λ (r : Token). r ∷ v ∷ vs) (comma u c);
    place = sym (err_is {A = List A} (suc (length vs)) left l);
    xs = some ∷ [];
    more = word some ∷ [];
    begun = refl;
    real = (some_real, tt);
    firm = λ z n. rw (stuck_at v k z n) refl;
  }
  stuck_in x u v vs left again c (Some a) k l =
      let h = again a left l in
      record {
        front = t.Symbol w.Comma ∷ word a ∷ h.front;
        rest = h.rest;
        parts = ap (λ (r : Token). r ∷ v ∷ vs) (comma u c) ∙ ap (λ (r : Token). t.Symbol w.Comma ∷ r ∷ vs) (word-kind v a k) ∙ ap (λ (r : List Token). t.Symbol w.Comma ∷ word a ∷ r) h.parts;
        place = h.place;
        xs = a ∷ h.xs;
        more = h.more;
        begun = ap (λ (r : List Token). t.Symbol w.Comma ∷ word a ∷ r) h.begun;
        real = h.real;
        firm = λ z n. rw (kind-word a, h.firm z n) refl;
      }

  stuck_on : (x : A) (u v : Token) (vs : List Token) (left : ℕ) → ((a : A) (n : ℕ) → listed_from kind (Some a) vs ≡ Err n → FromStuck a vs n) →
      is_symbol w.Comma u ≡ true → BindErr {A = List A} {B = List A} (listed kind (v ∷ vs)) (λ more. Ok (x ∷ more.0, more.1)) left → FromStuck x (u ∷ v ∷ vs) left
  stuck_on x u v vs left again c (BindErr.first l) = stuck_in x u v vs left again c (kind v) refl l
  stuck_on x u v vs left again c (BindErr.later p l e) = absurd cc

  stuck_when : (x : A) (u v : Token) (vs : List Token) (b : Bool) (left : ℕ) → ((a : A) (n : ℕ) → listed_from kind (Some a) vs ≡ Err n → FromStuck a vs n) →
      is_symbol w.Comma u ≡ b → cond b (listed kind (v ∷ vs) >> λ more. Ok (x ∷ more.0, more.1)) (Ok (x ∷ [], u ∷ v ∷ vs)) ≡ Err left → FromStuck x (u ∷ v ∷ vs) left
  stuck_when x u v vs false left again c e = absurd cc
  stuck_when x u v vs true left again c e = stuck_on x u v vs left again c (bind_err (listed kind (v ∷ vs)) (λ more. Ok (x ∷ more.0, more.1)) left e)

  stuck_last : (x : A) (u : Token) (b : Bool) (left : ℕ) → is_symbol w.Comma u ≡ b → ◌≡◌ {A = ReaderResult (List A)} (cond b (Err zero) (Ok (x ∷ [], u ∷ []))) (Err left) → FromStuck x (u ∷ []) left
  stuck_last x u false left c e = absurd cc
  stuck_last x u true left c e = record {
    front = t.Symbol w.Comma ∷ [];
    rest = [];
    parts = ap (λ (r : Token). r ∷ []) (comma u c);
    place = sym (err_is {A = List A} zero left e);
    xs = some ∷ [];
    more = word some ∷ [];
    begun = refl;
    real = (some_real, tt);
    firm = λ z n. rw (stuck_end z n) refl;
  }

  from_stuck : (x : A) (tokens : List Token) (left : ℕ) → listed_from kind (Some x) tokens ≡ Err left → FromStuck x tokens left
  from_stuck x [] left e = absurd cc
  from_stuck x (u ∷ []) left e = stuck_last x u (is_symbol w.Comma u) left refl e
  from_stuck x (u ∷ v ∷ vs) left e = stuck_when x u v vs (is_symbol w.Comma u) left (λ a n l. from_stuck a vs n l) refl e

  listed_stuck : (tokens : List Token) (left : ℕ) → listed kind tokens ≡ Err left → HasStopped HasItems (with_commas word) (listed kind) tokens left
  listed_stuck [] left e = record {
    front = [];
    rest = [];
    parts = refl;
    place = sym (err_is {A = List A} zero left e);
    value = some ∷ [];
    is = omega arith;
    more = word some ∷ [];
    begun = refl;
    real = (some_real, tt);
    firm = stuck_end;
  }
  listed_stuck (v ∷ vs) left e = listed_stuck_kind v vs left (kind v) refl e
    where
      listed_stuck_kind : (v : Token) (vs : List Token) (left : ℕ) (o : Option A) → kind v ≡ o → listed_from kind o vs ≡ Err left → HasStopped HasItems (with_commas word) (listed kind) (v ∷ vs) left
      listed_stuck_kind v vs left None k l = record {
        front = [];
        rest = v ∷ vs;
        parts = refl;
        place = sym (err_is {A = List A} (suc (length vs)) left l);
        value = some ∷ [];
        is = omega arith;
        more = word some ∷ [];
        begun = refl;
        real = (some_real, tt);
        firm = stuck_at v k;
      }
      listed_stuck_kind v vs left (Some a) k l =
          let h = from_stuck a vs left l in
          record {
            front = word a ∷ h.front;
            rest = h.rest;
            parts = ap (λ (r : Token). r ∷ vs) (word-kind v a k) ∙ ap (λ (r : List Token). word a ∷ r) h.parts;
            place = h.place;
            value = a ∷ h.xs;
            is = omega arith;
            more = h.more;
            begun = ap (λ (r : List Token). word a ∷ r) h.begun;
            real = h.real;
            firm = λ z n. rw (kind-word a) (h.firm z n);
          }

  pub IsExact-listed : IsExactReader HasItems (with_commas word) no_comma (listed kind)
  IsExact-listed = record { again = listed_again; takes = listed_takes; stuck = listed_stuck }
