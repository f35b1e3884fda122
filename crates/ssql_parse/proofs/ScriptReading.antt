-- Scripts are read exactly: what the grammar spells is read as what it spells, nothing else is read, and a reader that stops, stops at the first token with which no script goes on.
use Rattle.std.proofs.Common.{◌≡◌, ◌<◌, ◌+◌, ℕ, zero, suc, Bool, true, false, cond, List, [], ◌∷◌, ◌++◌, length, Option, Some, Ok, Err, refl, sym, ap, subst, ◌∙◌, append_assoc, length-append, arith}
use Rattle.std.proofs.lemmas.List.{append-nil}
use Rattle.ssql_tokens.specs.declared.token.Token.{Token}
use Rattle.ssql_tokens.specs.declared.token.Token.TheVariants as t
use Rattle.ssql_tokens.specs.declared.symbols.Symbol.TheVariants as w
use Rattle.ssql_parse.specs.declared.statement.Statement.{Statement}
use Rattle.ssql_parse.specs.declared.statement.Statement.TheVariants as st
use Rattle.ssql_tokens.specs.SymbolTests.{is_symbol}
use Rattle.ssql_tokens.specs.Written.{AreOfTexts}
use Rattle.ssql_parse.specs.Reading.{ReaderResult, next_token}
use Rattle.ssql_parse.specs.Grammar.{statement_tokens, IsStatement, AreStatements, behind_tokens, Spells, IsFirstWrong}
use Rattle.ssql_parse.specs.Statements.{statement_at, ScriptResult, statement_before, after_statement, statement_then, script_from, script_at}
use Rattle.ssql_parse.proofs.SymbolReading.{is_that_symbol}
use Rattle.ssql_parse.proofs.QueryReading.{behind_query}
use Rattle.ssql_parse.proofs.StatementReading.{IsExact-statement, statement_has_token}

-- ---- steps

pub step_script : (n : ℕ) (x : Token) (ts : List Token) → script_from (suc n) (x ∷ ts) ≡ statement_then (λ us. script_from n us) (statement_at (x ∷ ts))
unfolding script_from
step_script n x ts = refl

pub step_empty : (n : ℕ) → script_from (suc n) [] ≡ Ok []
unfolding script_from
step_empty n = refl

step_zero : (ts : List Token) → script_from zero ts ≡ Err (length ts)
unfolding script_from
step_zero ts = refl

-- a statement has a token
statement_begins : (q : Statement) (ts : List Token) → (x : Token) × (us : List Token) × (statement_tokens q ++ ts ≡ x ∷ us)
statement_begins (st.CreateTable n l) ts = (t.Symbol w.Create, _, refl)
statement_begins (st.CreateStream n q) ts = (t.Symbol w.Create, _, refl)
statement_begins (st.Insert n q) ts = (t.Symbol w.Insert, _, refl)
statement_begins (st.Query q) ts = (t.Symbol w.Select, _, refl)
statement_begins (st.ShowHistogram n) ts = (t.Symbol w.Show, _, refl)
statement_begins (st.ShowPartitions n) ts = (t.Symbol w.Show, _, refl)

pub read_one : (n : ℕ) (ts : List Token) (q : Statement) (rest : List Token) → statement_at ts ≡ Ok (q, rest) → (x : Token) (us : List Token) → ts ≡ x ∷ us → script_from (suc n) ts ≡ after_statement (λ vs. script_from n vs) q rest
read_one n ts q rest e x us is =
    let read : statement_at (x ∷ us) ≡ Ok (q, rest) = ap statement_at (sym is) ∙ e in
    ap (script_from (suc n)) is ∙ step_script n x us ∙ rw read refl

-- a statement before an end or a `;`
statement_again : (n : ℕ) (q : Statement) (rest : List Token) → IsStatement q → behind_query (next_token rest) ≡ true → script_from (suc n) (statement_tokens q ++ rest) ≡ after_statement (λ us. script_from n us) q rest
statement_again n q rest is may =
    let b = statement_begins q rest in
    read_one n (statement_tokens q ++ rest) q rest (IsExact-statement.again q rest is may) b.0 b.1 b.2

-- ---- what is spelled is read

again_from : (ended : Bool) (q : Statement) (statements : List Statement) (n : ℕ) → IsStatement q → AreStatements statements → length (statement_tokens q ++ behind_tokens ended statements) < n → script_from n (statement_tokens q ++ behind_tokens ended statements) ≡ Ok (q ∷ statements)
again_from ended q statements zero is are lt = absurd (omega arith)
again_from false q [] (suc n) is are lt = statement_again n q [] is refl
again_from true q [] (suc zero) is are lt = absurd (omega (arith, statement_has_token q, length-append (statement_tokens q) (t.Symbol w.Semicolon ∷ [])))
again_from true q [] (suc (suc n)) is are lt = statement_again (suc n) q (t.Symbol w.Semicolon ∷ []) is refl ∙ rw (step_empty n) refl
again_from ended q (r ∷ statements) (suc n) is are lt =
    let later = statement_tokens r ++ behind_tokens ended statements in
    let fewer : length later < n = omega (arith, length-append (statement_tokens q) (t.Symbol w.Semicolon ∷ later)) in
    statement_again n q (t.Symbol w.Semicolon ∷ later) is refl ∙ rw (again_from ended r statements n are.0 are.1 fewer) refl

pub script_again : (statements : List Statement) (tokens : List Token) → Spells statements tokens → script_at tokens ≡ Ok statements
unfolding script_at
script_again [] tokens is = ap (λ (ts : List Token). script_from (suc (length ts)) ts) is.1.1 ∙ step_empty zero
script_again (q ∷ statements) tokens is =
    ap (λ (ts : List Token). script_from (suc (length ts)) ts) is.1.1
    ∙ again_from is.1.0 q statements (suc (length (statement_tokens q ++ behind_tokens is.1.0 statements))) is.0.0 is.0.1 (omega arith)

-- ---- what is read is spelled so

then_ok : (again : List Token → ScriptResult) (r : ReaderResult Statement) (statements : List Statement) → statement_then again r ≡ Ok statements → (x : Statement × List Token) × (r ≡ Ok x) × (after_statement again x.0 x.1 ≡ Ok statements)
then_ok again (Ok x) statements e = (x, refl, e)
then_ok again (Err n) statements e = absurd cc

statement_before_ok : (q : Statement) (r : ScriptResult) (statements : List Statement) → statement_before q r ≡ Ok statements → (more : List Statement) × (r ≡ Ok more) × (q ∷ more ≡ statements)
statement_before_ok q (Ok more) statements e = (more, refl, let same : q ∷ more ≡ statements = cc in same)
statement_before_ok q (Err n) statements e = absurd cc

-- a script behind a statement and a `;`
joined : (q : Statement) (more : List Statement) (rest : List Token) → IsStatement q → Spells more rest → Spells (q ∷ more) (statement_tokens q ++ (t.Symbol w.Semicolon ∷ rest))
joined q [] rest is s = ((is, tt), (true, ap (λ (r : List Token). statement_tokens q ++ (t.Symbol w.Semicolon ∷ r)) s.1.1))
joined q (r ∷ more) rest is s = ((is, s.0), (s.1.0, ap (λ (us : List Token). statement_tokens q ++ (t.Symbol w.Semicolon ∷ us)) s.1.1))

alone : (q : Statement) → IsStatement q → Spells (q ∷ []) (statement_tokens q ++ [])
alone q is = ((is, tt), (false, refl))

module _ (n : ℕ) (again : (ts : List Token) (statements : List Statement) → script_from n ts ≡ Ok statements → Spells statements ts) where
  taken_when : (q : Statement) (is : IsStatement q) (x : Token) (us : List Token) (statements : List Statement) (b : Bool) → is_symbol w.Semicolon x ≡ b → cond b (statement_before q (script_from n us)) (Err (suc (length us))) ≡ Ok statements → Spells statements (statement_tokens q ++ (x ∷ us))
  taken_when q is x us statements false c e = absurd cc
  taken_when q is x us statements true c e =
      let m = statement_before_ok q (script_from n us) statements e in
      let s = joined q m.0 us is (again us m.0 m.1) in
      let word : t.Symbol w.Semicolon ∷ us ≡ x ∷ us = ap (λ (v : Token). v ∷ us) (sym (is_that_symbol w.Semicolon x c)) in
      subst (λ (qs : List Statement). Spells qs (statement_tokens q ++ (x ∷ us))) m.2 (subst (λ (vs : List Token). Spells (q ∷ m.0) (statement_tokens q ++ vs)) word s)

  taken_after : (q : Statement) (is : IsStatement q) (rest : List Token) (statements : List Statement) → after_statement (λ us. script_from n us) q rest ≡ Ok statements → Spells statements (statement_tokens q ++ rest)
  taken_after q is [] statements e = let same : q ∷ [] ≡ statements = cc in subst (λ (qs : List Statement). Spells qs (statement_tokens q ++ [])) same (alone q is)
  taken_after q is (x ∷ us) statements e = taken_when q is x us statements (is_symbol w.Semicolon x) refl e

  taken_at : (x : Token) (ts : List Token) (statements : List Statement) → statement_then (λ us. script_from n us) (statement_at (x ∷ ts)) ≡ Ok statements → Spells statements (x ∷ ts)
  taken_at x ts statements e =
      let q = then_ok (λ us. script_from n us) (statement_at (x ∷ ts)) statements e in
      let u = IsExact-statement.takes (x ∷ ts) q.0 q.1 in
      subst (λ (vs : List Token). Spells statements vs) (sym u.parts) (taken_after q.0.0 u.is q.0.1 statements q.2)

taken_from : (n : ℕ) (ts : List Token) (statements : List Statement) → script_from n ts ≡ Ok statements → Spells statements ts
taken_from zero ts statements e = absurd (let f = sym (step_zero ts) ∙ e in cc)
taken_from (suc n) [] statements e =
    let f : ◌≡◌ {A = ScriptResult} (Ok []) (Ok statements) = sym (step_empty n) ∙ e in
    let same : [] ≡ statements = cc in
    subst (λ (qs : List Statement). Spells qs []) same (tt, (false, refl))
taken_from (suc n) (x ∷ ts) statements e = taken_at n (taken_from n) x ts statements (sym (step_script n x ts) ∙ e)

pub script_takes : (tokens : List Token) (statements : List Statement) → script_at tokens ≡ Ok statements → Spells statements tokens
unfolding script_at
script_takes tokens statements e = taken_from (suc (length tokens)) tokens statements e

-- ---- where it stops

record Stopped (tokens : List Token) (left : ℕ) : Type 0 where
  front : List Token
  rest : List Token
  parts : tokens ≡ front ++ rest
  place : left ≡ length rest
  script : List Statement
  more : List Token
  begun : Spells script (front ++ more)
  real : AreOfTexts more
  firm : (m : ℕ) (y : List Token) → next_token y ≡ next_token rest → length (front ++ y) < m → script_from m (front ++ y) ≡ Err (length y)

data Then (again : List Token → ScriptResult) (r : ReaderResult Statement) (left : ℕ) : Type 0 where
  stopped : r ≡ Err left → Then again r left
  went_on : (x : Statement × List Token) → r ≡ Ok x → after_statement again x.0 x.1 ≡ Err left → Then again r left

then_err : (again : List Token → ScriptResult) (r : ReaderResult Statement) (left : ℕ) → statement_then again r ≡ Err left → Then again r left
then_err again (Ok x) left e = Then.went_on x refl e
then_err again (Err n) left e = let same : n ≡ left = cc in Then.stopped (ap (λ k. Err k) same)

statement_before_err : (q : Statement) (r : ScriptResult) (left : ℕ) → statement_before q r ≡ Err left → r ≡ Err left
statement_before_err q (Ok more) left e = absurd cc
statement_before_err q (Err n) left e = let same : n ≡ left = cc in ap (λ k. Err k) same

-- the reader goes to the statement, where there is one or more tokens
pub to_statement : (n : ℕ) (ts : List Token) (left : ℕ) → statement_at ts ≡ Err left → (x : Token) (us : List Token) → ts ≡ x ∷ us → script_from (suc n) ts ≡ Err left
to_statement n ts left e x us is =
    let read : statement_at (x ∷ us) ≡ Err left = ap statement_at (sym is) ∙ e in
    ap (script_from (suc n)) is ∙ step_script n x us ∙ rw read refl

-- the first token of a list that goes on with the first of another
nonempty : (front rest y ts : List Token) (x : Token) → x ∷ ts ≡ front ++ rest → next_token y ≡ next_token rest → (z : Token) × (us : List Token) × (front ++ y ≡ z ∷ us)
nonempty [] [] y ts x parts n = absurd cc
nonempty [] (r ∷ rest) [] ts x parts n = absurd cc
nonempty [] (r ∷ rest) (z ∷ us) ts x parts n = (z, us, refl)
nonempty (f ∷ front) rest y ts x parts n = (f, front ++ y, refl)

statement_firm : (front rest ts : List Token) (x : Token) → x ∷ ts ≡ front ++ rest → ((y : List Token) → next_token y ≡ next_token rest → statement_at (front ++ y) ≡ Err (length y)) →
    (m : ℕ) (y : List Token) → next_token y ≡ next_token rest → length (front ++ y) < m → script_from m (front ++ y) ≡ Err (length y)
statement_firm front rest ts x parts firm zero y n lt = absurd (omega arith)
statement_firm front rest ts x parts firm (suc m) y n lt =
    let b = nonempty front rest y ts x parts n in
    to_statement m (front ++ y) (length y) (firm y n) b.0 b.1 b.2

-- behind a statement, before a token that is no `;`
semicolon_firm : (q : Statement) (x : Token) (us : List Token) → ((y : List Token) → next_token y ≡ Some x → statement_at (statement_tokens q ++ y) ≡ Ok (q, y)) → is_symbol w.Semicolon x ≡ false →
    (m : ℕ) (y : List Token) → next_token y ≡ Some x → length (statement_tokens q ++ y) < m → script_from m (statement_tokens q ++ y) ≡ Err (length y)
semicolon_firm q x us firm c zero y n lt = absurd (omega arith)
semicolon_firm q x us firm c (suc m) [] n lt = absurd cc
semicolon_firm q x us firm c (suc m) (z ∷ zs) n lt =
    let same : z ≡ x = cc in
    let no_word : is_symbol w.Semicolon z ≡ false = ap (is_symbol w.Semicolon) same ∙ c in
    let b = statement_begins q (z ∷ zs) in
    read_one m (statement_tokens q ++ (z ∷ zs)) q (z ∷ zs) (firm (z ∷ zs) n) b.0 b.1 b.2 ∙ rw no_word refl

-- behind a statement and a `;`
later_firm : (q : Statement) (x : Token) (us front rest : List Token) → ((y : List Token) → next_token y ≡ Some x → statement_at (statement_tokens q ++ y) ≡ Ok (q, y)) → x ≡ t.Symbol w.Semicolon →
    ((m : ℕ) (y : List Token) → next_token y ≡ next_token rest → length (front ++ y) < m → script_from m (front ++ y) ≡ Err (length y)) →
    (m : ℕ) (y : List Token) → next_token y ≡ next_token rest → length ((statement_tokens q ++ (t.Symbol w.Semicolon ∷ front)) ++ y) < m → script_from m ((statement_tokens q ++ (t.Symbol w.Semicolon ∷ front)) ++ y) ≡ Err (length y)
later_firm q x us front rest firm c later zero y n lt = absurd (omega arith)
later_firm q x us front rest firm c later (suc m) y n lt =
    let all = t.Symbol w.Semicolon ∷ (front ++ y) in
    let regroup : (statement_tokens q ++ (t.Symbol w.Semicolon ∷ front)) ++ y ≡ statement_tokens q ++ all = append_assoc (statement_tokens q) (t.Symbol w.Semicolon ∷ front) y in
    let fewer : length (front ++ y) < m = omega (arith, ap length regroup, length-append (statement_tokens q) all) in
    let b = statement_begins q all in
    let word : ◌≡◌ {A = Option Token} (Some (t.Symbol w.Semicolon)) (Some x) = ap (λ v. Some v) (sym c) in
    ap (script_from (suc m)) regroup ∙ read_one m (statement_tokens q ++ all) q all (firm all word) b.0 b.1 b.2 ∙ rw (later m y n fewer) refl

module _ (n : ℕ) (again : (ts : List Token) (left : ℕ) → length ts < n → script_from n ts ≡ Err left → Stopped ts left) (x0 : Token) (ts0 : List Token) (left : ℕ) (lt : length (x0 ∷ ts0) < suc n) where
  stopped_when : (q : Statement) (is : IsStatement q) (x : Token) (us : List Token) → x0 ∷ ts0 ≡ statement_tokens q ++ (x ∷ us) → ((y : List Token) → next_token y ≡ Some x → statement_at (statement_tokens q ++ y) ≡ Ok (q, y)) →
      (b : Bool) → is_symbol w.Semicolon x ≡ b → cond b (statement_before q (script_from n us)) (Err (suc (length us))) ≡ Err left → Stopped (x0 ∷ ts0) left
  stopped_when q is x us parts firm false c e = record {
    front = statement_tokens q;
    rest = x ∷ us;
    parts = parts;
    place = let same : suc (length us) ≡ left = cc in sym same;
    script = q ∷ [];
    more = [];
    begun = alone q is;
    real = tt;
    firm = semicolon_firm q x us firm c;
  }
  stopped_when q is x us parts firm true c e =
      let same : length (x0 ∷ ts0) ≡ length (statement_tokens q) + length (x ∷ us) = ap length parts ∙ length-append (statement_tokens q) (x ∷ us) in
      let h = again us left (omega (arith, same)) (statement_before_err q (script_from n us) left e) in
      let word = is_that_symbol w.Semicolon x c in
      record {
        front = statement_tokens q ++ (t.Symbol w.Semicolon ∷ h.front);
        rest = h.rest;
        parts = parts ∙ ap (λ (v : Token). statement_tokens q ++ (v ∷ us)) word ∙ ap (λ (r : List Token). statement_tokens q ++ (t.Symbol w.Semicolon ∷ r)) h.parts ∙ sym (append_assoc (statement_tokens q) (t.Symbol w.Semicolon ∷ h.front) h.rest);
        place = h.place;
        script = q ∷ h.script;
        more = h.more;
        begun = subst (λ (vs : List Token). Spells (q ∷ h.script) vs) (sym (append_assoc (statement_tokens q) (t.Symbol w.Semicolon ∷ h.front) h.more)) (joined q h.script (h.front ++ h.more) is h.begun);
        real = h.real;
        firm = later_firm q x us h.front h.rest firm word h.firm;
      }

  stopped_after : (q : Statement) (is : IsStatement q) (rest : List Token) → x0 ∷ ts0 ≡ statement_tokens q ++ rest → ((y : List Token) → next_token y ≡ next_token rest → statement_at (statement_tokens q ++ y) ≡ Ok (q, y)) →
      after_statement (λ us. script_from n us) q rest ≡ Err left → Stopped (x0 ∷ ts0) left
  stopped_after q is [] parts firm e = absurd cc
  stopped_after q is (x ∷ us) parts firm e = stopped_when q is x us parts firm (is_symbol w.Semicolon x) refl e

  stopped_at : Then (λ us. script_from n us) (statement_at (x0 ∷ ts0)) left → Stopped (x0 ∷ ts0) left
  stopped_at (Then.stopped h) =
      let s = IsExact-statement.stuck (x0 ∷ ts0) left h in
      record {
        front = s.front;
        rest = s.rest;
        parts = s.parts;
        place = s.place;
        script = s.value ∷ [];
        more = s.more;
        begun = ((s.is, tt), (false, sym s.begun ∙ sym (append-nil (statement_tokens s.value))));
        real = s.real;
        firm = statement_firm s.front s.rest ts0 x0 s.parts s.firm;
      }
  stopped_at (Then.went_on x h e) =
      let u = IsExact-statement.takes (x0 ∷ ts0) x h in
      stopped_after x.0 u.is x.1 u.parts u.firm e

stopped_from : (n : ℕ) (ts : List Token) (left : ℕ) → length ts < n → script_from n ts ≡ Err left → Stopped ts left
stopped_from zero ts left lt e = absurd (omega arith)
stopped_from (suc n) [] left lt e = absurd (let f : ◌≡◌ {A = ScriptResult} (Ok []) (Err left) = sym (step_empty n) ∙ e in cc)
stopped_from (suc n) (x ∷ ts) left lt e = stopped_at n (stopped_from n) x ts left lt (then_err (λ us. script_from n us) (statement_at (x ∷ ts)) left (sym (step_script n x ts) ∙ e))

pub script_stops : (tokens : List Token) (left : ℕ) → script_at tokens ≡ Err left → IsFirstWrong tokens left
unfolding script_at
script_stops tokens left e =
    let h = stopped_from (suc (length tokens)) tokens left (omega arith) e in
    record {
      front = h.front;
      rest = h.rest;
      parts = h.parts;
      place = h.place;
      script = h.script;
      more = h.more;
      begun = h.begun;
      real = h.real;
      wrong = λ y n statements s.
          let read = script_again statements (h.front ++ y) s in
          let fails = h.firm (suc (length (h.front ++ y))) y n (omega arith) in
          let f : ◌≡◌ {A = ScriptResult} (Ok statements) (Err (length y)) = sym read ∙ fails in
          cc;
    }
