-- Conditions are read exactly.
use Rattle.std.proofs.Common.{◌≡◌, ◌<◌, ◌≤◌, ◌+◌, ℕ, zero, suc, Bool, true, false, cond, List, [], ◌∷◌, ◌++◌, length, Option, Some, None, Ok, Err, refl, sym, ap, subst, ◌∙◌, append_assoc, length-append, arith}
use Rattle.ssql_tokens.specs.declared.token.Token.{Token}
use Rattle.ssql_tokens.specs.declared.token.Token.TheVariants as t
use Rattle.ssql_tokens.specs.declared.symbols.Symbol.{Symbol}
use Rattle.ssql_tokens.specs.declared.symbols.Symbol.TheVariants as w
use Rattle.ssql_parse.specs.declared.condition.Predicate.{Predicate}
use Rattle.ssql_parse.specs.declared.condition.Piece.{Piece}
use Rattle.ssql_parse.specs.declared.condition.Piece.TheVariants as p
use Rattle.ssql_tokens.specs.SymbolTests.{is_symbol}
use Rattle.ssql_tokens.specs.Written.{AreOfTexts}
use Rattle.ssql_parse.specs.Reading.{TokenReader, ReaderResult, ◌>>◌, next_token, begins, is_next}
use Rattle.ssql_parse.specs.Exact.{IsExactReader}
use Rattle.ssql_parse.specs.Grammar.{predicate_tokens, piece_tokens, pieces_tokens, IsPiece, ArePieces, IsFilter}
use Rattle.ssql_parse.specs.Pieces.{predicate_at, one_before, tail_of, closed_or_end, before_term, behind_term, pieces_at, goes_before, goes_behind}
use Rattle.ssql_parse.proofs.Exactness.{bind_ok, BindErr, bind_err, ok_is, err_is, next_after, real_both}
use Rattle.ssql_parse.proofs.SymbolReading.{is_that_symbol, symbol_real}
use Rattle.ssql_parse.proofs.PredicateReading.{IsExact-predicate}
use Rattle.ssql_parse.proofs.Trees.{condition_goes, goes_is_condition}

-- neither AND nor OR comes next
abbrev pub no_junction : Option Token → Bool
no_junction None = true
no_junction (Some x) = cond (is_symbol w.And x) false (cond (is_symbol w.Or x) false true)

begun_by : (word : Symbol) (ts : List Token) → begins word ts ≡ true → ts ≡ t.Symbol word ∷ tail_of ts
begun_by word [] e = absurd cc
begun_by word (x ∷ ts) e = ap (λ (r : Token). r ∷ ts) (is_that_symbol word x e)

same_begins : (word : Symbol) (y ts : List Token) (b : Bool) → next_token y ≡ next_token ts → begins word ts ≡ b → begins word y ≡ b
same_begins word y ts b n e = ap (is_next word) n ∙ e

some_token : (x : Piece) → 1 ≤ length (piece_tokens x)
some_token p.Not = omega arith
some_token p.Open = omega arith
some_token p.Close = omega arith
some_token p.And = omega arith
some_token p.Or = omega arith
some_token (p.Predicate x) = omega arith

neither : (b c : Bool) → cond b false (cond c false true) ≡ true → (b ≡ false) × (c ≡ false)
neither true c e = absurd cc
neither false true e = absurd cc
neither false false e = (refl, refl)

no_and : (ts : List Token) → no_junction (next_token ts) ≡ true → begins w.And ts ≡ false
no_and [] e = refl
no_and (x ∷ ts) e = (neither (is_symbol w.And x) (is_symbol w.Or x) e).0

no_or : (ts : List Token) → no_junction (next_token ts) ≡ true → begins w.Or ts ≡ false
no_or [] e = refl
no_or (x ∷ ts) e = (neither (is_symbol w.And x) (is_symbol w.Or x) e).1

-- ---- one step of the reader

step_not : (n k : ℕ) (ts : List Token) → before_term (suc n) k (t.Symbol w.Not ∷ ts) ≡ one_before p.Not (before_term n k ts)
unfolding before_term
step_not n k ts = refl

step_open : (n k : ℕ) (ts : List Token) → before_term (suc n) k (t.Symbol w.OpenParen ∷ ts) ≡ one_before p.Open (before_term n (suc k) ts)
unfolding before_term
step_open n k ts = refl

step_predicate : (n k : ℕ) (x : Predicate) (ts : List Token) → IsPiece (p.Predicate x) → before_term (suc n) k (predicate_tokens x ++ ts) ≡ one_before (p.Predicate x) (behind_term n k ts)
unfolding before_term
step_predicate n k x ts is = rw (IsExact-predicate.again x ts is refl) refl

step_and : (n k : ℕ) (ts : List Token) → behind_term (suc n) k (t.Symbol w.And ∷ ts) ≡ one_before p.And (before_term n k ts)
unfolding behind_term
step_and n k ts = refl

step_or : (n k : ℕ) (ts : List Token) → behind_term (suc n) k (t.Symbol w.Or ∷ ts) ≡ one_before p.Or (before_term n k ts)
unfolding behind_term
step_or n k ts = refl

step_close : (n k : ℕ) (ts : List Token) → behind_term (suc n) (suc k) (t.Symbol w.CloseParen ∷ ts) ≡ one_before p.Close (behind_term n k ts)
unfolding behind_term
step_close n k ts = refl

step_end : (n : ℕ) (ts : List Token) → begins w.And ts ≡ false → begins w.Or ts ≡ false → behind_term (suc n) zero ts ≡ Ok ([], ts)
unfolding behind_term
step_end n ts a o = rw (a, o) refl

-- ---- what is spelled is read

one_before_ok : (x : Piece) (ps : List Piece) (rest : List Token) (r : ReaderResult (List Piece)) → r ≡ Ok (ps, rest) → one_before x r ≡ Ok (x ∷ ps, rest)
one_before_ok x ps rest r e = rw e refl

-- the same before other tokens
regroup : (x : Piece) (ps : List Piece) (rest : List Token) → pieces_tokens (x ∷ ps) ++ rest ≡ piece_tokens x ++ (pieces_tokens ps ++ rest)
regroup x ps rest = append_assoc (piece_tokens x) (pieces_tokens ps) rest

fewer : (x : Piece) (ps : List Piece) (rest : List Token) (n : ℕ) → length (pieces_tokens (x ∷ ps) ++ rest) < suc n → length (pieces_tokens ps ++ rest) < n
fewer x ps rest n lt =
    let same : length (pieces_tokens (x ∷ ps) ++ rest) ≡ length (piece_tokens x) + length (pieces_tokens ps ++ rest) = ap length (regroup x ps rest) ∙ length-append (piece_tokens x) (pieces_tokens ps ++ rest) in
    omega (arith, same, some_token x)

mutual
  again_before : (ps : List Piece) (n k : ℕ) (rest : List Token) → goes_before ps k ≡ true → ArePieces ps → length (pieces_tokens ps ++ rest) < n → no_junction (next_token rest) ≡ true → before_term n k (pieces_tokens ps ++ rest) ≡ Ok (ps, rest)
  again_before [] n k rest g are lt may = absurd cc
  again_before (x ∷ ps) zero k rest g are lt may = absurd (omega arith)
  again_before (p.Not ∷ ps) (suc n) k rest g are lt may = step_not n k (pieces_tokens ps ++ rest) ∙ one_before_ok p.Not ps rest _ (again_before ps n k rest g are.1 (fewer p.Not ps rest n lt) may)
  again_before (p.Open ∷ ps) (suc n) k rest g are lt may = step_open n k (pieces_tokens ps ++ rest) ∙ one_before_ok p.Open ps rest _ (again_before ps n (suc k) rest g are.1 (fewer p.Open ps rest n lt) may)
  again_before (p.Close ∷ ps) (suc n) k rest g are lt may = absurd cc
  again_before (p.And ∷ ps) (suc n) k rest g are lt may = absurd cc
  again_before (p.Or ∷ ps) (suc n) k rest g are lt may = absurd cc
  again_before (p.Predicate x ∷ ps) (suc n) k rest g are lt may =
      ap (before_term (suc n) k) (regroup (p.Predicate x) ps rest) ∙ step_predicate n k x (pieces_tokens ps ++ rest) are.0 ∙ one_before_ok (p.Predicate x) ps rest _ (again_behind ps n k rest g are.1 (fewer (p.Predicate x) ps rest n lt) may)

  again_behind : (ps : List Piece) (n k : ℕ) (rest : List Token) → goes_behind ps k ≡ true → ArePieces ps → length (pieces_tokens ps ++ rest) < n → no_junction (next_token rest) ≡ true → behind_term n k (pieces_tokens ps ++ rest) ≡ Ok (ps, rest)
  again_behind ps zero k rest g are lt may = absurd (omega arith)
  again_behind [] (suc n) zero rest g are lt may = step_end n rest (no_and rest may) (no_or rest may)
  again_behind [] (suc n) (suc k) rest g are lt may = absurd cc
  again_behind (p.Not ∷ ps) (suc n) k rest g are lt may = absurd cc
  again_behind (p.Open ∷ ps) (suc n) k rest g are lt may = absurd cc
  again_behind (p.Close ∷ ps) (suc n) zero rest g are lt may = absurd cc
  again_behind (p.Close ∷ ps) (suc n) (suc k) rest g are lt may = step_close n k (pieces_tokens ps ++ rest) ∙ one_before_ok p.Close ps rest _ (again_behind ps n k rest g are.1 (fewer p.Close ps rest n lt) may)
  again_behind (p.And ∷ ps) (suc n) k rest g are lt may = step_and n k (pieces_tokens ps ++ rest) ∙ one_before_ok p.And ps rest _ (again_before ps n k rest g are.1 (fewer p.And ps rest n lt) may)
  again_behind (p.Or ∷ ps) (suc n) k rest g are lt may = step_or n k (pieces_tokens ps ++ rest) ∙ one_before_ok p.Or ps rest _ (again_before ps n k rest g are.1 (fewer p.Or ps rest n lt) may)
  again_behind (p.Predicate x ∷ ps) (suc n) k rest g are lt may = absurd cc

-- ---- what is read, and where it stops. A reader is given its number of turns.

record Took (Goes : List Piece → Bool) (read : ℕ → TokenReader (List Piece)) (tokens : List Token) (x : List Piece × List Token) : Type 0 where
  parts : tokens ≡ pieces_tokens x.0 ++ x.1
  goes : Goes x.0 ≡ true
  fit : ArePieces x.0
  firm : (m : ℕ) (y : List Token) → next_token y ≡ next_token x.1 → length (pieces_tokens x.0 ++ y) < m → read m (pieces_tokens x.0 ++ y) ≡ Ok (x.0, y)

record Stopped (Goes : List Piece → Bool) (read : ℕ → TokenReader (List Piece)) (tokens : List Token) (left : ℕ) : Type 0 where
  front : List Token
  rest : List Token
  parts : tokens ≡ front ++ rest
  place : left ≡ length rest
  value : List Piece
  goes : Goes value ≡ true
  fit : ArePieces value
  more : List Token
  begun : pieces_tokens value ≡ front ++ more
  real : AreOfTexts more
  firm : (m : ℕ) (y : List Token) → next_token y ≡ next_token rest → length (front ++ y) < m → read m (front ++ y) ≡ Err (length y)

-- one piece more at the front
fewer_left : (x : Piece) (f y : List Token) (n : ℕ) → length ((piece_tokens x ++ f) ++ y) < suc n → length (f ++ y) < n
fewer_left x f y n lt =
    let same : length ((piece_tokens x ++ f) ++ y) ≡ length (piece_tokens x) + length (f ++ y) = ap length (append_assoc (piece_tokens x) f y) ∙ length-append (piece_tokens x) (f ++ y) in
    omega (arith, same, some_token x)

one_before_err : (x : Piece) (r : ReaderResult (List Piece)) (n : ℕ) → r ≡ Err n → one_before x r ≡ Err n
one_before_err x r n e = rw e refl

module _ (read read' : ℕ → TokenReader (List Piece)) (x : Piece) (step : (n : ℕ) (ts : List Token) → read (suc n) (piece_tokens x ++ ts) ≡ one_before x (read' n ts)) where
  took_firm : (ps : List Piece) (rest : List Token) → ((m : ℕ) (y : List Token) → next_token y ≡ next_token rest → length (pieces_tokens ps ++ y) < m → read' m (pieces_tokens ps ++ y) ≡ Ok (ps, y)) →
      (m : ℕ) (y : List Token) → next_token y ≡ next_token rest → length (pieces_tokens (x ∷ ps) ++ y) < m → read m (pieces_tokens (x ∷ ps) ++ y) ≡ Ok (x ∷ ps, y)
  took_firm ps rest firm zero y n lt = absurd (omega arith)
  took_firm ps rest firm (suc m) y n lt = ap (read (suc m)) (append_assoc (piece_tokens x) (pieces_tokens ps) y) ∙ step m (pieces_tokens ps ++ y) ∙ one_before_ok x ps y _ (firm m y n (fewer_left x (pieces_tokens ps) y m lt))

  stopped_firm : (front rest : List Token) → ((m : ℕ) (y : List Token) → next_token y ≡ next_token rest → length (front ++ y) < m → read' m (front ++ y) ≡ Err (length y)) →
      (m : ℕ) (y : List Token) → next_token y ≡ next_token rest → length ((piece_tokens x ++ front) ++ y) < m → read m ((piece_tokens x ++ front) ++ y) ≡ Err (length y)
  stopped_firm front rest firm zero y n lt = absurd (omega arith)
  stopped_firm front rest firm (suc m) y n lt = ap (read (suc m)) (append_assoc (piece_tokens x) front y) ∙ step m (front ++ y) ∙ one_before_err x (read' m (front ++ y)) (length y) (firm m y n (fewer_left x front y m lt))

module _ {Goes Goes' : List Piece → Bool} {read read' : ℕ → TokenReader (List Piece)} (x : Piece) (is : IsPiece x)
    (goes : (ps : List Piece) → Goes' ps ≡ true → Goes (x ∷ ps) ≡ true) (step : (n : ℕ) (ts : List Token) → read (suc n) (piece_tokens x ++ ts) ≡ one_before x (read' n ts))
    (tokens : List Token) (later : List Token) (parts : tokens ≡ piece_tokens x ++ later) where
  took_more : (z v : List Piece × List Token) → Took Goes' read' later z → ◌≡◌ {A = ReaderResult (List Piece)} (Ok (x ∷ z.0, z.1)) (Ok v) → Took Goes read tokens v
  took_more z v h e =
      subst (λ (r : List Piece × List Token). Took Goes read tokens r) (ok_is (x ∷ z.0, z.1) v e)
      (record {
        parts = parts ∙ ap (λ (r : List Token). piece_tokens x ++ r) h.parts ∙ sym (append_assoc (piece_tokens x) (pieces_tokens z.0) z.1);
        goes = goes z.0 h.goes;
        fit = (is, h.fit);
        firm = took_firm read read' x step z.0 z.1 h.firm;
      })

  stopped_more : (left : ℕ) → Stopped Goes' read' later left → Stopped Goes read tokens left
  stopped_more left h = record {
    front = piece_tokens x ++ h.front;
    rest = h.rest;
    parts = parts ∙ ap (λ (r : List Token). piece_tokens x ++ r) h.parts ∙ sym (append_assoc (piece_tokens x) h.front h.rest);
    place = h.place;
    value = x ∷ h.value;
    goes = goes h.value h.goes;
    fit = (is, h.fit);
    more = h.more;
    begun = ap (λ (r : List Token). piece_tokens x ++ r) h.begun ∙ sym (append_assoc (piece_tokens x) h.front h.more);
    real = h.real;
    firm = stopped_firm read read' x step h.front h.rest h.firm;
  }

abbrev TookBefore : ℕ → List Token → List Piece × List Token → Type 0
TookBefore k ts x = Took (λ ps. goes_before ps k) (λ m. before_term m k) ts x

abbrev TookBehind : ℕ → List Token → List Piece × List Token → Type 0
TookBehind k ts x = Took (λ ps. goes_behind ps k) (λ m. behind_term m k) ts x

-- ---- what is read

module _ (n : ℕ) (before : (k : ℕ) (ts : List Token) (x : List Piece × List Token) → before_term n k ts ≡ Ok x → TookBefore k ts x)
    (behind : (k : ℕ) (ts : List Token) (x : List Piece × List Token) → behind_term n k ts ≡ Ok x → TookBehind k ts x)
    (k : ℕ) (ts : List Token) (x : List Piece × List Token) where
  took_predicate : (predicate_at ts >> λ v. one_before (p.Predicate v.0) (behind_term n k v.1)) ≡ Ok x → TookBefore k ts x
  took_predicate e =
      let q = bind_ok (predicate_at ts) (λ v. one_before (p.Predicate v.0) (behind_term n k v.1)) x e in
      let u = IsExact-predicate.takes ts q.0 q.1 in
      let r = bind_ok (behind_term n k q.0.1) (λ more. Ok (p.Predicate q.0.0 ∷ more.0, more.1)) x q.2 in
      took_more (p.Predicate q.0.0) u.is (λ ps g. g) (λ m us. step_predicate m k q.0.0 us u.is) ts q.0.1 u.parts r.0 x (behind k q.0.1 r.0 r.1) r.2

  took_open : (b : Bool) → begins w.OpenParen ts ≡ b → cond b (one_before p.Open (before_term n (suc k) (tail_of ts))) (predicate_at ts >> λ v. one_before (p.Predicate v.0) (behind_term n k v.1)) ≡ Ok x → TookBefore k ts x
  took_open false is e = took_predicate e
  took_open true is e =
      let r = bind_ok (before_term n (suc k) (tail_of ts)) (λ more. Ok (p.Open ∷ more.0, more.1)) x e in
      took_more p.Open tt (λ ps g. g) (λ m us. step_open m k us) ts (tail_of ts) (begun_by w.OpenParen ts is) r.0 x (before (suc k) (tail_of ts) r.0 r.1) r.2

  took_not : (b : Bool) → begins w.Not ts ≡ b →
      cond b (one_before p.Not (before_term n k (tail_of ts))) (cond (begins w.OpenParen ts) (one_before p.Open (before_term n (suc k) (tail_of ts))) (predicate_at ts >> λ v. one_before (p.Predicate v.0) (behind_term n k v.1))) ≡ Ok x → TookBefore k ts x
  took_not false is e = took_open (begins w.OpenParen ts) refl e
  took_not true is e =
      let r = bind_ok (before_term n k (tail_of ts)) (λ more. Ok (p.Not ∷ more.0, more.1)) x e in
      took_more p.Not tt (λ ps g. g) (λ m us. step_not m k us) ts (tail_of ts) (begun_by w.Not ts is) r.0 x (before k (tail_of ts) r.0 r.1) r.2

-- behind a term, where neither AND nor OR comes next
end_firm : (ts : List Token) → begins w.And ts ≡ false → begins w.Or ts ≡ false → (m : ℕ) (y : List Token) → next_token y ≡ next_token ts → length y < m → behind_term m zero y ≡ Ok ([], y)
end_firm ts a o zero y n lt = absurd (omega arith)
end_firm ts a o (suc m) y n lt = step_end m y (same_begins w.And y ts false n a) (same_begins w.Or y ts false n o)

module _ (n : ℕ) (before : (k : ℕ) (ts : List Token) (x : List Piece × List Token) → before_term n k ts ≡ Ok x → TookBefore k ts x)
    (behind : (k : ℕ) (ts : List Token) (x : List Piece × List Token) → behind_term n k ts ≡ Ok x → TookBehind k ts x)
    (ts : List Token) (x : List Piece × List Token) where
  took_close : (k : ℕ) (b : Bool) → begins w.CloseParen ts ≡ b → cond b (one_before p.Close (behind_term n k (tail_of ts))) (Err (length ts)) ≡ Ok x → TookBehind (suc k) ts x
  took_close k false is e = absurd cc
  took_close k true is e =
      let r = bind_ok (behind_term n k (tail_of ts)) (λ more. Ok (p.Close ∷ more.0, more.1)) x e in
      took_more p.Close tt (λ ps g. g) (λ m us. step_close m k us) ts (tail_of ts) (begun_by w.CloseParen ts is) r.0 x (behind k (tail_of ts) r.0 r.1) r.2

  took_end : (k : ℕ) → begins w.And ts ≡ false → begins w.Or ts ≡ false → closed_or_end (λ o. behind_term n o) k ts ≡ Ok x → TookBehind k ts x
  took_end zero a o e =
      let made : List Piece × List Token = ([], ts) in
      subst (λ (r : List Piece × List Token). TookBehind zero ts r) (ok_is made x e) (record { parts = refl; goes = refl; fit = tt; firm = end_firm ts a o })
  took_end (suc k) a o e = took_close k (begins w.CloseParen ts) refl e

  took_or : (k : ℕ) (b : Bool) → begins w.And ts ≡ false → begins w.Or ts ≡ b → cond b (one_before p.Or (before_term n k (tail_of ts))) (closed_or_end (λ o. behind_term n o) k ts) ≡ Ok x → TookBehind k ts x
  took_or k false a is e = took_end k a is e
  took_or k true a is e =
      let r = bind_ok (before_term n k (tail_of ts)) (λ more. Ok (p.Or ∷ more.0, more.1)) x e in
      took_more p.Or tt (λ ps g. g) (λ m us. step_or m k us) ts (tail_of ts) (begun_by w.Or ts is) r.0 x (before k (tail_of ts) r.0 r.1) r.2

  took_and : (k : ℕ) (b : Bool) → begins w.And ts ≡ b →
      cond b (one_before p.And (before_term n k (tail_of ts))) (cond (begins w.Or ts) (one_before p.Or (before_term n k (tail_of ts))) (closed_or_end (λ o. behind_term n o) k ts)) ≡ Ok x → TookBehind k ts x
  took_and k false is e = took_or k (begins w.Or ts) is refl e
  took_and k true is e =
      let r = bind_ok (before_term n k (tail_of ts)) (λ more. Ok (p.And ∷ more.0, more.1)) x e in
      took_more p.And tt (λ ps g. g) (λ m us. step_and m k us) ts (tail_of ts) (begun_by w.And ts is) r.0 x (before k (tail_of ts) r.0 r.1) r.2

mutual
  unfolding before_term

  takes_before : (n k : ℕ) (ts : List Token) (x : List Piece × List Token) → before_term n k ts ≡ Ok x → TookBefore k ts x
  takes_before zero k ts x e = absurd cc
  takes_before (suc n) k ts x e = took_not n (takes_before n) (takes_behind n) k ts x (begins w.Not ts) refl e

  takes_behind : (n k : ℕ) (ts : List Token) (x : List Piece × List Token) → behind_term n k ts ≡ Ok x → TookBehind k ts x
  takes_behind zero k ts x e = absurd cc
  takes_behind (suc n) k ts x e = took_and n (takes_before n) (takes_behind n) ts x k (begins w.And ts) refl e

-- ---- where it stops

abbrev StoppedBefore : ℕ → List Token → ℕ → Type 0
StoppedBefore k ts left = Stopped (λ ps. goes_before ps k) (λ m. before_term m k) ts left

abbrev StoppedBehind : ℕ → List Token → ℕ → Type 0
StoppedBehind k ts left = Stopped (λ ps. goes_behind ps k) (λ m. behind_term m k) ts left

one_before_stopped : (x : Piece) (r : ReaderResult (List Piece)) (left : ℕ) → one_before x r ≡ Err left → r ≡ Err left
one_before_stopped x (Ok v) left e = absurd cc
one_before_stopped x (Err m) left e = e

-- what closes all that is opened
abbrev closing : ℕ → List Piece
closing zero = []
closing (suc k) = p.Close ∷ closing k

goes_closing : (k : ℕ) → goes_behind (closing k) k ≡ true
goes_closing zero = refl
goes_closing (suc k) = goes_closing k

fit_closing : (k : ℕ) → ArePieces (closing k)
fit_closing zero = tt
fit_closing (suc k) = (tt, fit_closing k)

real_closing : (k : ℕ) → AreOfTexts (pieces_tokens (closing k))
real_closing zero = tt
real_closing (suc k) = (symbol_real w.CloseParen, real_closing k)

less : (word : Symbol) (ts : List Token) (n : ℕ) → begins word ts ≡ true → length ts < suc n → length (tail_of ts) < n
less word ts n is lt = let same : length ts ≡ suc (length (tail_of ts)) = ap length (begun_by word ts is) in omega (arith, same)

module _ (n : ℕ) (before : (k : ℕ) (ts : List Token) (left : ℕ) → length ts < n → before_term n k ts ≡ Err left → StoppedBefore k ts left)
    (behind : (k : ℕ) (ts : List Token) (left : ℕ) → length ts < n → behind_term n k ts ≡ Err left → StoppedBehind k ts left)
    (k : ℕ) (ts : List Token) (left : ℕ) (lt : length ts < suc n) where
  predicate_firm : begins w.Not ts ≡ false → begins w.OpenParen ts ≡ false → (front rest : List Token) → ts ≡ front ++ rest → ((y : List Token) → next_token y ≡ next_token rest → predicate_at (front ++ y) ≡ Err (length y)) →
      (m : ℕ) (y : List Token) → next_token y ≡ next_token rest → length (front ++ y) < m → before_term m k (front ++ y) ≡ Err (length y)
  unfolding before_term
  predicate_firm nn oo front rest parts firm zero y e short = absurd (omega arith)
  predicate_firm nn oo front rest parts firm (suc m) y e short =
      let same : next_token (front ++ y) ≡ next_token ts = next_after front y rest e ∙ ap next_token (sym parts) in
      rw (same_begins w.Not (front ++ y) ts false same nn, same_begins w.OpenParen (front ++ y) ts false same oo, firm y e) refl

  stopped_predicate : begins w.Not ts ≡ false → begins w.OpenParen ts ≡ false → BindErr {A = Predicate} {B = List Piece} (predicate_at ts) (λ v. one_before (p.Predicate v.0) (behind_term n k v.1)) left → StoppedBefore k ts left
  stopped_predicate nn oo (BindErr.first h) =
      let s = IsExact-predicate.stuck ts left h in
      record {
        front = s.front;
        rest = s.rest;
        parts = s.parts;
        place = s.place;
        value = p.Predicate s.value ∷ closing k;
        goes = goes_closing k;
        fit = (s.is, fit_closing k);
        more = s.more ++ pieces_tokens (closing k);
        begun = ap (λ (r : List Token). r ++ pieces_tokens (closing k)) s.begun ∙ append_assoc s.front s.more (pieces_tokens (closing k));
        real = real_both s.more (pieces_tokens (closing k)) s.real (real_closing k);
        firm = predicate_firm nn oo s.front s.rest s.parts s.firm;
      }
  stopped_predicate nn oo (BindErr.later v h e) = later_predicate (bind_err (behind_term n k v.1) (λ more. Ok (p.Predicate v.0 ∷ more.0, more.1)) left e)
    where
      later_predicate : BindErr {A = List Piece} {B = List Piece} (behind_term n k v.1) (λ more. Ok (p.Predicate v.0 ∷ more.0, more.1)) left → StoppedBefore k ts left
      later_predicate (BindErr.first h2) =
          let u = IsExact-predicate.takes ts v h in
          let same : length ts ≡ length (predicate_tokens v.0) + length v.1 = ap length u.parts ∙ length-append (predicate_tokens v.0) v.1 in
          stopped_more (p.Predicate v.0) u.is (λ ps g. g) (λ m us. step_predicate m k v.0 us u.is) ts v.1 u.parts left (behind k v.1 left (omega (arith, same, some_token (p.Predicate v.0))) h2)
      later_predicate (BindErr.later z h2 e2) = absurd cc

  stopped_open : (b : Bool) → begins w.Not ts ≡ false → begins w.OpenParen ts ≡ b → cond b (one_before p.Open (before_term n (suc k) (tail_of ts))) (predicate_at ts >> λ v. one_before (p.Predicate v.0) (behind_term n k v.1)) ≡ Err left → StoppedBefore k ts left
  stopped_open false nn is e = stopped_predicate nn is (bind_err (predicate_at ts) (λ v. one_before (p.Predicate v.0) (behind_term n k v.1)) left e)
  stopped_open true nn is e =
      stopped_more p.Open tt (λ ps g. g) (λ m us. step_open m k us) ts (tail_of ts) (begun_by w.OpenParen ts is) left
      (before (suc k) (tail_of ts) left (less w.OpenParen ts n is lt) (one_before_stopped p.Open (before_term n (suc k) (tail_of ts)) left e))

  stopped_not : (b : Bool) → begins w.Not ts ≡ b →
      cond b (one_before p.Not (before_term n k (tail_of ts))) (cond (begins w.OpenParen ts) (one_before p.Open (before_term n (suc k) (tail_of ts))) (predicate_at ts >> λ v. one_before (p.Predicate v.0) (behind_term n k v.1))) ≡ Err left → StoppedBefore k ts left
  stopped_not false is e = stopped_open (begins w.OpenParen ts) is refl e
  stopped_not true is e =
      stopped_more p.Not tt (λ ps g. g) (λ m us. step_not m k us) ts (tail_of ts) (begun_by w.Not ts is) left
      (before k (tail_of ts) left (less w.Not ts n is lt) (one_before_stopped p.Not (before_term n k (tail_of ts)) left e))

close_firm : (k : ℕ) (ts : List Token) → begins w.And ts ≡ false → begins w.Or ts ≡ false → begins w.CloseParen ts ≡ false →
    (m : ℕ) (y : List Token) → next_token y ≡ next_token ts → length y < m → behind_term m (suc k) y ≡ Err (length y)
unfolding behind_term
close_firm k ts a o c zero y n lt = absurd (omega arith)
close_firm k ts a o c (suc m) y n lt = rw (same_begins w.And y ts false n a, same_begins w.Or y ts false n o, same_begins w.CloseParen y ts false n c) refl

module _ (n : ℕ) (before : (k : ℕ) (ts : List Token) (left : ℕ) → length ts < n → before_term n k ts ≡ Err left → StoppedBefore k ts left)
    (behind : (k : ℕ) (ts : List Token) (left : ℕ) → length ts < n → behind_term n k ts ≡ Err left → StoppedBehind k ts left)
    (ts : List Token) (left : ℕ) (lt : length ts < suc n) where
  stopped_close : (k : ℕ) (b : Bool) → begins w.And ts ≡ false → begins w.Or ts ≡ false → begins w.CloseParen ts ≡ b → cond b (one_before p.Close (behind_term n k (tail_of ts))) (Err (length ts)) ≡ Err left → StoppedBehind (suc k) ts left
  stopped_close k false a o is e = record {
    front = [];
    rest = ts;
    parts = refl;
    place = sym (err_is {A = List Piece} (length ts) left e);
    value = closing (suc k);
    goes = goes_closing (suc k);
    fit = fit_closing (suc k);
    more = pieces_tokens (closing (suc k));
    begun = refl;
    real = real_closing (suc k);
    firm = close_firm k ts a o is;
  }
  stopped_close k true a o is e =
      stopped_more p.Close tt (λ ps g. g) (λ m us. step_close m k us) ts (tail_of ts) (begun_by w.CloseParen ts is) left
      (behind k (tail_of ts) left (less w.CloseParen ts n is lt) (one_before_stopped p.Close (behind_term n k (tail_of ts)) left e))

  stopped_end : (k : ℕ) → begins w.And ts ≡ false → begins w.Or ts ≡ false → closed_or_end (λ o. behind_term n o) k ts ≡ Err left → StoppedBehind k ts left
  stopped_end zero a o e = absurd cc
  stopped_end (suc k) a o e = stopped_close k (begins w.CloseParen ts) a o refl e

  stopped_or : (k : ℕ) (b : Bool) → begins w.And ts ≡ false → begins w.Or ts ≡ b → cond b (one_before p.Or (before_term n k (tail_of ts))) (closed_or_end (λ o. behind_term n o) k ts) ≡ Err left → StoppedBehind k ts left
  stopped_or k false a is e = stopped_end k a is e
  stopped_or k true a is e =
      stopped_more p.Or tt (λ ps g. g) (λ m us. step_or m k us) ts (tail_of ts) (begun_by w.Or ts is) left
      (before k (tail_of ts) left (less w.Or ts n is lt) (one_before_stopped p.Or (before_term n k (tail_of ts)) left e))

  stopped_and : (k : ℕ) (b : Bool) → begins w.And ts ≡ b →
      cond b (one_before p.And (before_term n k (tail_of ts))) (cond (begins w.Or ts) (one_before p.Or (before_term n k (tail_of ts))) (closed_or_end (λ o. behind_term n o) k ts)) ≡ Err left → StoppedBehind k ts left
  stopped_and k false is e = stopped_or k (begins w.Or ts) is refl e
  stopped_and k true is e =
      stopped_more p.And tt (λ ps g. g) (λ m us. step_and m k us) ts (tail_of ts) (begun_by w.And ts is) left
      (before k (tail_of ts) left (less w.And ts n is lt) (one_before_stopped p.And (before_term n k (tail_of ts)) left e))

mutual
  unfolding before_term

  stuck_before : (n k : ℕ) (ts : List Token) (left : ℕ) → length ts < n → before_term n k ts ≡ Err left → StoppedBefore k ts left
  stuck_before zero k ts left lt e = absurd (omega arith)
  stuck_before (suc n) k ts left lt e = stopped_not n (stuck_before n) (stuck_behind n) k ts left lt (begins w.Not ts) refl e

  stuck_behind : (n k : ℕ) (ts : List Token) (left : ℕ) → length ts < n → behind_term n k ts ≡ Err left → StoppedBehind k ts left
  stuck_behind zero k ts left lt e = absurd (omega arith)
  stuck_behind (suc n) k ts left lt e = stopped_and n (stuck_before n) (stuck_behind n) ts left lt k (begins w.And ts) refl e

-- ---- conditions

pub IsExact-pieces : IsExactReader IsFilter pieces_tokens no_junction pieces_at
unfolding pieces_at
IsExact-pieces = record {
  again = λ ps rest is may. again_before ps (suc (length (pieces_tokens ps ++ rest))) zero rest (condition_goes ps is.0) is.1 (omega arith) may;
  takes = λ tokens x e.
      let h = takes_before (suc (length tokens)) zero tokens x e in
      record { parts = h.parts; is = (goes_is_condition x.0 h.goes, h.fit); firm = λ y n. h.firm (suc (length (pieces_tokens x.0 ++ y))) y n (omega arith) };
  stuck = λ tokens left e.
      let h = stuck_before (suc (length tokens)) zero tokens left (omega arith) e in
      record {
        front = h.front;
        rest = h.rest;
        parts = h.parts;
        place = h.place;
        value = h.value;
        is = (goes_is_condition h.value h.goes, h.fit);
        more = h.more;
        begun = h.begun;
        real = h.real;
        firm = λ y n. h.firm (suc (length (h.front ++ y))) y n (omega arith);
      };
}
