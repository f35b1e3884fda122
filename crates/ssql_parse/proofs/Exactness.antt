-- Exactness of a whole from that of its parts.
use Rattle.std.proofs.Common.{◌≡◌, ℕ, zero, suc, Bool, true, false, cond, List, [], ◌∷◌, ◌++◌, length, Option, Some, None, Ok, Err, ◌⊎◌, inl, inr, refl, sym, ap, subst, ◌∙◌, append_assoc}
use Rattle.ssql_tokens.specs.declared.token.Token.{Token}
use Rattle.ssql_tokens.specs.declared.symbols.Symbol.{Symbol}
use Rattle.ssql_tokens.specs.Written.{IsTokenOfText, AreOfTexts}
use Rattle.ssql_parse.specs.Reading.{TokenReader, ReaderResult, ◌>>◌, next_token, taken, taken_as, both, mapped, either, nothing, begins, is_next}
use Rattle.ssql_parse.specs.Exact.{HasStopped, HasRead, IsExactReader, anything}

-- ---- steps

pub bind_ok : {A B : Type 0} (r : ReaderResult A) (f : A × List Token → ReaderResult B) (y : B × List Token) → (r >> f) ≡ Ok y → (x : A × List Token) × (r ≡ Ok x) × (f x ≡ Ok y)
bind_ok (Ok x) f y e = (x, refl, e)
bind_ok (Err n) f y e = absurd cc

pub data BindErr {A B : Type 0} (r : ReaderResult A) (f : A × List Token → ReaderResult B) (n : ℕ) : Type 0 where
  first : r ≡ Err n → BindErr r f n
  later : (x : A × List Token) → r ≡ Ok x → f x ≡ Err n → BindErr r f n

pub bind_err : {A B : Type 0} (r : ReaderResult A) (f : A × List Token → ReaderResult B) (n : ℕ) → (r >> f) ≡ Err n → BindErr r f n
bind_err (Ok x) f n e = later x refl e
bind_err (Err m) f n e = let is : m ≡ n = cc in first (ap (λ k. Err k) is)

pub ok_is : {A : Type 0} (x y : A × List Token) → ◌≡◌ {A = ReaderResult A} (Ok x) (Ok y) → x ≡ y
ok_is x y e = cc

pub err_is : {A : Type 0} (m n : ℕ) → ◌≡◌ {A = ReaderResult A} (Err m) (Err n) → m ≡ n
err_is m n e = cc

-- the next token after a front
pub next_after : (front y rest : List Token) → next_token y ≡ next_token rest → next_token (front ++ y) ≡ next_token (front ++ rest)
next_after [] y rest e = e
next_after (t ∷ front) y rest e = refl

pub real_both : (a b : List Token) → AreOfTexts a → AreOfTexts b → AreOfTexts (a ++ b)
real_both [] b h k = k
real_both (t ∷ a) b h k = (h.0, real_both a b h.1 k)

-- ---- one token

module _ {A : Type 0} (kind : Token → Option A) (word : A → Token) (kind-word : (a : A) → kind (word a) ≡ Some a) (word-kind : (t : Token) (a : A) → kind t ≡ Some a → t ≡ word a) (some : A) (some_real : IsTokenOfText (word some)) where
  abbrev Any : A → Type 0
  Any a = Unit {0}

  abbrev alone : A → List Token
  alone a = word a ∷ []

  taken_firm : (a : A) (y : List Token) → taken kind (word a ∷ y) ≡ Ok (a, y)
  unfolding taken
  taken_firm a y = rw (kind-word a) refl

  taken_from : (t : Token) (ts : List Token) (o : Option A) (x : A × List Token) → kind t ≡ o → taken_as o t ts ≡ Ok x → HasRead Any alone (taken kind) (t ∷ ts) x
  taken_from t ts None x k e = absurd cc
  taken_from t ts (Some a) x k e =
      subst (λ (y : A × List Token). HasRead Any alone (taken kind) (t ∷ ts) y) (ok_is (a, ts) x e)
      (record { parts = ap (λ (u : Token). u ∷ ts) (word-kind t a k); is = tt; firm = λ y n. taken_firm a y })

  taken_takes : (tokens : List Token) (x : A × List Token) → taken kind tokens ≡ Ok x → HasRead Any alone (taken kind) tokens x
  unfolding taken
  taken_takes [] x e = absurd cc
  taken_takes (t ∷ ts) x e = taken_from t ts (kind t) x refl e

  firm_end : (y : List Token) → next_token y ≡ None → taken kind y ≡ Err (length y)
  unfolding taken
  firm_end [] e = refl
  firm_end (u ∷ us) e = absurd cc

  firm_at : (t : Token) → kind t ≡ None → (y : List Token) → next_token y ≡ Some t → taken kind y ≡ Err (length y)
  unfolding taken
  firm_at t k [] e = absurd cc
  firm_at t k (u ∷ us) e =
      let same : u ≡ t = cc in
      let none : kind u ≡ None = ap kind same ∙ k in
      rw none refl

  taken_stuck_at : (t : Token) (ts : List Token) (o : Option A) (left : ℕ) → kind t ≡ o → taken_as o t ts ≡ Err left → HasStopped Any alone (taken kind) (t ∷ ts) left
  taken_stuck_at t ts None left k e = record {
    front = [];
    rest = t ∷ ts;
    parts = refl;
    place = sym (err_is (suc (length ts)) left e);
    value = some;
    is = tt;
    more = word some ∷ [];
    begun = refl;
    real = (some_real, tt);
    firm = firm_at t k;
  }
  taken_stuck_at t ts (Some a) left k e = absurd cc

  taken_stuck : (tokens : List Token) (left : ℕ) → taken kind tokens ≡ Err left → HasStopped Any alone (taken kind) tokens left
  unfolding taken
  taken_stuck [] left e = record {
    front = [];
    rest = [];
    parts = refl;
    place = sym (err_is zero left e);
    value = some;
    is = tt;
    more = word some ∷ [];
    begun = refl;
    real = (some_real, tt);
    firm = firm_end;
  }
  taken_stuck (t ∷ ts) left e = taken_stuck_at t ts (kind t) left refl e

  pub IsExact-taken : IsExactReader Any alone anything (taken kind)
  IsExact-taken = record { again = λ a rest is stops. taken_firm a rest; takes = taken_takes; stuck = taken_stuck }

-- ---- one after the other

module _ {A B : Type 0} {IsA : A → Type 0} {IsB : B → Type 0} {sA : A → List Token} {sB : B → List Token} {stopsA stopsB : Option Token → Bool} {rA : TokenReader A} {rB : TokenReader B}
    (first : IsExactReader IsA sA stopsA rA) (second : IsExactReader IsB sB stopsB rB) (some : B) (is_some : IsB some) (some_real : AreOfTexts (sB some))
    (fits : (b : B) (rest : List Token) → IsB b → stopsB (next_token rest) ≡ true → stopsA (next_token (sB b ++ rest)) ≡ true) where
  abbrev IsBoth : A × B → Type 0
  IsBoth p = IsA p.0 × IsB p.1

  abbrev two : A × B → List Token
  two p = sA p.0 ++ sB p.1

  both_stuck : (tokens : List Token) (left : ℕ) → BindErr {B = A × B} (rA tokens) (λ a. rB a.1 >> λ b. Ok ((a.0, b.0), b.1)) left → HasStopped IsBoth two (both rA rB) tokens left
  both_stuck tokens left (BindErr.first h) =
      let s = first.stuck tokens left h in
      record {
        front = s.front;
        rest = s.rest;
        parts = s.parts;
        place = s.place;
        value = (s.value, some);
        is = (s.is, is_some);
        more = s.more ++ sB some;
        begun = ap (λ (w : List Token). w ++ sB some) s.begun ∙ append_assoc s.front s.more (sB some);
        real = real_both s.more (sB some) s.real some_real;
        firm = λ y n. rw (s.firm y n) refl;
      }
  both_stuck tokens left (BindErr.later x h k) = later_stuck (bind_err (rB x.1) (λ b. Ok ((x.0, b.0), b.1)) left k)
    where
      later_stuck : BindErr {A = B} {B = A × B} (rB x.1) (λ b. Ok ((x.0, b.0), b.1)) left → HasStopped IsBoth two (both rA rB) tokens left
      later_stuck (BindErr.first h2) =
          let t = first.takes tokens x h in
          let s = second.stuck x.1 left h2 in
          record {
            front = sA x.0 ++ s.front;
            rest = s.rest;
            parts = t.parts ∙ ap (λ (w : List Token). sA x.0 ++ w) s.parts ∙ sym (append_assoc (sA x.0) s.front s.rest);
            place = s.place;
            value = (x.0, s.value);
            is = (t.is, s.is);
            more = s.more;
            begun = ap (λ (w : List Token). sA x.0 ++ w) s.begun ∙ sym (append_assoc (sA x.0) s.front s.more);
            real = s.real;
            firm = λ y n. rw (append_assoc (sA x.0) s.front y, t.firm (s.front ++ y) (next_after s.front y s.rest n ∙ ap next_token (sym s.parts)), s.firm y n) refl;
          }
      later_stuck (BindErr.later z h2 k2) = absurd cc

  pub IsExact-both : IsExactReader IsBoth two stopsB (both rA rB)
  IsExact-both = record {
    again = λ p rest is stops.
        rw (append_assoc (sA p.0) (sB p.1) rest, first.again p.0 (sB p.1 ++ rest) is.0 (fits p.1 rest is.1 stops), second.again p.1 rest is.1 stops) refl;
    takes = λ tokens x e.
        let p = bind_ok (rA tokens) (λ a. rB a.1 >> λ b. Ok ((a.0, b.0), b.1)) x e in
        let t = first.takes tokens p.0 p.1 in
        let q = bind_ok (rB p.0.1) (λ b. Ok ((p.0.0, b.0), b.1)) x p.2 in
        let u = second.takes p.0.1 q.0 q.1 in
        let made : (A × B) × List Token = ((p.0.0, q.0.0), q.0.1) in
        subst (λ (y : (A × B) × List Token). HasRead IsBoth two (both rA rB) tokens y) (ok_is made x q.2)
        (record {
          parts = t.parts ∙ ap (λ (w : List Token). sA p.0.0 ++ w) u.parts ∙ sym (append_assoc (sA p.0.0) (sB q.0.0) q.0.1);
          is = (t.is, u.is);
          firm = λ y n. rw (append_assoc (sA p.0.0) (sB q.0.0) y, t.firm (sB q.0.0 ++ y) (next_after (sB q.0.0) y q.0.1 n ∙ ap next_token (sym u.parts)), u.firm y n) refl;
        });
    stuck = λ tokens left e. both_stuck tokens left (bind_err (rA tokens) (λ a. rB a.1 >> λ b. Ok ((a.0, b.0), b.1)) left e);
  }

-- ---- a value seen as another

module _ {A B : Type 0} {IsA : A → Type 0} {sA : A → List Token} {stops : Option Token → Bool} {read : TokenReader A} (exact : IsExactReader IsA sA stops read)
    (IsB : B → Type 0) (sB : B → List Token) (view : A → B)
    (there : (a : A) → IsA a → IsB (view a) × (sB (view a) ≡ sA a)) (each : (b : B) → IsB b → (a : A) × IsA a × (view a ≡ b)) where
  mapped_stuck : (tokens : List Token) (left : ℕ) → BindErr {B = B} (read tokens) (λ a. Ok (view a.0, a.1)) left → HasStopped IsB sB (mapped view read) tokens left
  mapped_stuck tokens left (BindErr.first h) =
      let s = exact.stuck tokens left h in
      let t = there s.value s.is in
      record {
        front = s.front;
        rest = s.rest;
        parts = s.parts;
        place = s.place;
        value = view s.value;
        is = t.0;
        more = s.more;
        begun = t.1 ∙ s.begun;
        real = s.real;
        firm = λ y n. rw (s.firm y n) refl;
      }
  mapped_stuck tokens left (BindErr.later z h k) = absurd cc

  pub IsExact-mapped : IsExactReader IsB sB stops (mapped view read)
  IsExact-mapped = record {
    again = λ b rest is may.
        let a = each b is in
        let t = there a.0 a.1 in
        subst (λ (v : B). mapped view read (sB v ++ rest) ≡ Ok (v, rest)) a.2 (rw (t.1, exact.again a.0 rest a.1 may) refl);
    takes = λ tokens x e.
        let p = bind_ok (read tokens) (λ a. Ok (view a.0, a.1)) x e in
        let u = exact.takes tokens p.0 p.1 in
        let t = there p.0.0 u.is in
        let made : B × List Token = (view p.0.0, p.0.1) in
        subst (λ (y : B × List Token). HasRead IsB sB (mapped view read) tokens y) (ok_is made x p.2)
        (record { parts = u.parts ∙ ap (λ (w : List Token). w ++ p.0.1) (sym t.1); is = t.0; firm = λ y n. rw (t.1, u.firm y n) refl });
    stuck = λ tokens left e. mapped_stuck tokens left (bind_err (read tokens) (λ a. Ok (view a.0, a.1)) left e);
  }

-- ---- other words for what fits, and fewer tokens that may follow

pub IsExact-as : {A : Type 0} {IsA : A → Type 0} {sA : A → List Token} {stops : Option Token → Bool} {read : TokenReader A} → IsExactReader IsA sA stops read →
    (Is : A → Type 0) (may : Option Token → Bool) → ((a : A) → IsA a → Is a) → ((a : A) → Is a → IsA a) → ((t : Option Token) → may t ≡ true → stops t ≡ true) → IsExactReader Is sA may read
IsExact-as exact Is may there here fewer = record {
  again = λ a rest is m. exact.again a rest (here a is) (fewer (next_token rest) m);
  takes = λ tokens x e. let u = exact.takes tokens x e in record { parts = u.parts; is = there x.0 u.is; firm = u.firm };
  stuck = λ tokens left e. let s = exact.stuck tokens left e in record {
    front = s.front;
    rest = s.rest;
    parts = s.parts;
    place = s.place;
    value = s.value;
    is = there s.value s.is;
    more = s.more;
    begun = s.begun;
    real = s.real;
    firm = s.firm;
  };
}

-- ---- one reader or another, by the next token

module _ {A : Type 0} {Is1 Is2 : A → Type 0} {spell : A → List Token} {stops : Option Token → Bool} {r1 r2 : TokenReader A} (word : Symbol)
    (first : IsExactReader Is1 spell stops r1) (second : IsExactReader Is2 spell stops r2)
    (lead1 : (a : A) (rest : List Token) → Is1 a → stops (next_token rest) ≡ true → begins word (spell a ++ rest) ≡ true)
    (lead2 : (a : A) (rest : List Token) → Is2 a → stops (next_token rest) ≡ true → begins word (spell a ++ rest) ≡ false) where
  abbrev IsOne : A → Type 0
  IsOne a = Is1 a ⊎ Is2 a

  -- the test goes the same way before any tokens that go on with the same one
  same_way : (tokens front rest y : List Token) (b : Bool) → tokens ≡ front ++ rest → next_token y ≡ next_token rest → begins word tokens ≡ b → begins word (front ++ y) ≡ b
  same_way tokens front rest y b parts n e = ap (is_next word) (next_after front y rest n ∙ ap next_token (sym parts)) ∙ e

  either_takes : (tokens : List Token) (x : A × List Token) (b : Bool) → begins word tokens ≡ b → cond b (r1 tokens) (r2 tokens) ≡ Ok x → HasRead IsOne spell (either word r1 r2) tokens x
  either_takes tokens x true t e =
      let u = first.takes tokens x e in
      record { parts = u.parts; is = inl u.is; firm = λ y n. rw (same_way tokens (spell x.0) x.1 y true u.parts n t, u.firm y n) refl }
  either_takes tokens x false t e =
      let u = second.takes tokens x e in
      record { parts = u.parts; is = inr u.is; firm = λ y n. rw (same_way tokens (spell x.0) x.1 y false u.parts n t, u.firm y n) refl }

  either_stuck : (tokens : List Token) (left : ℕ) (b : Bool) → begins word tokens ≡ b → cond b (r1 tokens) (r2 tokens) ≡ Err left → HasStopped IsOne spell (either word r1 r2) tokens left
  either_stuck tokens left true t e =
      let s = first.stuck tokens left e in
      record {
        front = s.front;
        rest = s.rest;
        parts = s.parts;
        place = s.place;
        value = s.value;
        is = inl s.is;
        more = s.more;
        begun = s.begun;
        real = s.real;
        firm = λ y n. rw (same_way tokens s.front s.rest y true s.parts n t, s.firm y n) refl;
      }
  either_stuck tokens left false t e =
      let s = second.stuck tokens left e in
      record {
        front = s.front;
        rest = s.rest;
        parts = s.parts;
        place = s.place;
        value = s.value;
        is = inr s.is;
        more = s.more;
        begun = s.begun;
        real = s.real;
        firm = λ y n. rw (same_way tokens s.front s.rest y false s.parts n t, s.firm y n) refl;
      }

  either_again : (a : A) (rest : List Token) → IsOne a → stops (next_token rest) ≡ true → either word r1 r2 (spell a ++ rest) ≡ Ok (a, rest)
  either_again a rest (inl is) may = rw (lead1 a rest is may, first.again a rest is may) refl
  either_again a rest (inr is) may = rw (lead2 a rest is may, second.again a rest is may) refl

  pub IsExact-either : IsExactReader IsOne spell stops (either word r1 r2)
  IsExact-either = record {
    again = either_again;
    takes = λ tokens x e. either_takes tokens x (begins word tokens) refl e;
    stuck = λ tokens left e. either_stuck tokens left (begins word tokens) refl e;
  }

-- ---- no token

pub IsExact-nothing : {A : Type 0} (spell : Option A → List Token) → spell None ≡ [] → IsExactReader (λ (o : Option A). o ≡ None) spell anything nothing
IsExact-nothing {A} spell empty = record {
  again = λ o rest is may. subst (λ (p : Option A). nothing (spell p ++ rest) ≡ Ok (p, rest)) (sym is) (rw empty refl);
  takes = λ tokens x e.
      let made : Option A × List Token = (None, tokens) in
      subst (λ (y : Option A × List Token). HasRead (λ (o : Option A). o ≡ None) spell nothing tokens y) (ok_is made x e)
      (record { parts = rw empty refl; is = refl; firm = λ y n. rw empty refl });
  stuck = λ tokens left e. absurd cc;
}
