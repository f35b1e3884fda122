-- The loops over pieces and over lists with commas.
use Rattle.std.proofs.Common.{◌≡◌, ◌<◌, ◌≤◌, ◌+◌, ◌-◌, ℕ, zero, suc, Bool, true, false, cond, List, [], ◌∷◌, ◌++◌, length, drop, Option, Some, None, Result, Ok, Err, refl, sym, ap, ◌∙◌, append_assoc, length-append, arith}
use Rattle.std.proofs.lemmas.List.{append-nil}
use Rattle.ssql_tokens.specs.declared.token.Token.{Token}
use Rattle.ssql_tokens.specs.declared.symbols.Symbol.TheVariants as w
use Rattle.ssql_parse.specs.declared.condition.Predicate.{Predicate}
use Rattle.ssql_parse.specs.declared.condition.Piece.{Piece}
use Rattle.ssql_parse.specs.declared.condition.Piece.TheVariants as p
use Rattle.ssql_parse.specs.declared.reading.Stop.{Stop}
use Rattle.ssql_parse.specs.declared.reading.Stop.TheVariants.{Memory, Wrong}
use Rattle.ssql_parse.specs.Reading.{ReaderResult, ◌>>◌, begins, taken, taken_as, listed, listed_from, StopsAs, ReadsAs}
use Rattle.ssql_parse.specs.Pieces.{predicate_at, one_before, tail_of, closed_or_end, before_term, behind_term, pieces_at, piece_at, before_at, behind_at, close_at, is_before_next, opened_after, condition_from, with_front, go_on, IsRead}
use Rattle.ssql_parse.specs.Grammar.{predicate_tokens}
use Rattle.ssql_parse.proofs.Exactness.{ok_is, err_is}
use Rattle.ssql_parse.proofs.PredicateReading.{IsExact-predicate}
use Rattle.std.specs.Result.{IsErrAnd}
use Rattle.std.proofs.lemmas.Result.{err_from_is_err_and}

-- ---- lists with commas

module _ {A : Type 0} (kind : Token → Option A) where
  listed_by : (o : Option A) (x : Token) (ts : List Token) (a : A) (later : List Token) → taken_as o x ts ≡ Ok (a, later) → (o ≡ Some a) × (ts ≡ later)
  listed_by None x ts a later e = absurd cc
  listed_by (Some b) x ts a later e = let q = ok_is (b, ts) (a, later) e in (ap (λ (z : A × List Token). Some z.0) q, ap (λ (z : A × List Token). z.1) q)

  from_first : (a : A) (later : List Token) (b : Bool) → begins w.Comma later ≡ b → listed_from kind (Some a) later ≡ cond b (listed kind (drop 1 later) >> λ more. Ok (a ∷ more.0, more.1)) (Ok (a ∷ [], later))
  from_first a [] true e = absurd cc
  from_first a [] false e = refl
  from_first a (x ∷ later) b e = rw e refl

  pub listed_step : (ts : List Token) (a : A) (later : List Token) (b : Bool) → taken kind ts ≡ Ok (a, later) → begins w.Comma later ≡ b →
      listed kind ts ≡ cond b (listed kind (drop 1 later) >> λ more. Ok (a ∷ more.0, more.1)) (Ok (a ∷ [], later))
  unfolding taken
  listed_step [] a later b e c = absurd cc
  listed_step (x ∷ ts) a later b e c =
      let h = listed_by (kind x) x ts a later e in
      ap (λ (o : Option A). listed_from kind o ts) h.0 ∙ ap (λ (us : List Token). listed_from kind (Some a) us) h.1 ∙ from_first a later b c

  no_first : (o : Option A) (x : Token) (ts : List Token) (n : ℕ) → taken_as o x ts ≡ Err n → listed_from kind o ts ≡ Err n
  no_first None x ts n e = ap (λ k. Err k) (err_is {A = A} (suc (length ts)) n e)
  no_first (Some b) x ts n e = absurd cc

  pub listed_fails : (ts : List Token) (n : ℕ) → taken kind ts ≡ Err n → listed kind ts ≡ Err n
  unfolding taken
  listed_fails [] n e = ap (λ k. Err k) (err_is {A = A} zero n e)
  listed_fails (x ∷ ts) n e = no_first (kind x) x ts n e

  -- the list is what is read of all, behind the items so far
  pub taken_shorter : (ts : List Token) (a : A) (later : List Token) → taken kind ts ≡ Ok (a, later) → length later + 1 ≤ length ts
  unfolding taken
  taken_shorter [] a later e = absurd cc
  taken_shorter (x ∷ ts) a later e = let h = listed_by (kind x) x ts a later e in omega (arith, ap length h.1)

pub with_no_front : {A : Type 0} (r : ReaderResult (List A)) → with_front [] r ≡ r
with_no_front (Ok x) = refl
with_no_front (Err n) = refl

pub one_in_front : {A : Type 0} (front : List A) (x : A) (r : ReaderResult (List A)) → with_front front (r >> λ more. Ok (x ∷ more.0, more.1)) ≡ with_front (front ++ x ∷ []) r
one_in_front front x (Ok y) = ap (λ (w : List _). Ok (w, y.1)) (sym (append_assoc front (x ∷ []) y.0))
one_in_front front x (Err n) = refl

pub front_fails : {A : Type 0} (front : List A) (r : ReaderResult (List A)) (n : ℕ) → r ≡ Err n → with_front front r ≡ Err n
front_fails front r n e = rw e refl

-- ---- pieces

through_predicate : (n k : ℕ) (r : ReaderResult Predicate) → (r >> λ x. one_before (p.Predicate x.0) (behind_term n k x.1)) ≡ ((r >> λ x. Ok (Some (p.Predicate x.0), x.1)) >> λ x. go_on n k x.0 x.1)
through_predicate n k (Ok x) = refl
through_predicate n k (Err m) = refl

step_before : (n k : ℕ) (ts : List Token) (b c : Bool) → begins w.Not ts ≡ b → begins w.OpenParen ts ≡ c → before_term (suc n) k ts ≡ (before_at ts >> λ x. go_on n k x.0 x.1)
unfolding before_term
step_before n k ts true c e f = rw e refl
step_before n k ts false true e f = let more : suc k ≡ k + 1 = omega arith in rw (e, f) (ap (λ (j : ℕ). one_before p.Open (before_term n j (tail_of ts))) more)
step_before n k ts false false e f = rw (e, f) (through_predicate n k (predicate_at ts))

step_close : (n k : ℕ) (ts : List Token) (b : Bool) → begins w.CloseParen ts ≡ b → closed_or_end (λ o. behind_term n o) k ts ≡ (close_at k ts >> λ x. go_on n k x.0 x.1)
step_close n zero ts b e = refl
step_close n (suc k) ts true e = let less : k ≡ suc k - 1 = omega arith in rw e (ap (λ (j : ℕ). one_before p.Close (behind_term n j (tail_of ts))) less)
step_close n (suc k) ts false e = rw e refl

step_behind : (n k : ℕ) (ts : List Token) (b c : Bool) → begins w.And ts ≡ b → begins w.Or ts ≡ c → behind_term (suc n) k ts ≡ (behind_at k ts >> λ x. go_on n k x.0 x.1)
unfolding behind_term
step_behind n k ts true c e f = rw e refl
step_behind n k ts false true e f = rw (e, f) refl
step_behind n k ts false false e f = rw (e, f) (step_close n k ts (begins w.CloseParen ts) refl)

pub one_step : (b : Bool) (n k : ℕ) (ts : List Token) → condition_from b (suc n) k ts ≡ (piece_at b k ts >> λ x. go_on n k x.0 x.1)
one_step true n k ts = step_before n k ts (begins w.Not ts) (begins w.OpenParen ts) refl refl
one_step false n k ts = step_behind n k ts (begins w.And ts) (begins w.Or ts) refl refl

-- a piece takes a token
begun_shorter : (word : _) (ts : List Token) → begins word ts ≡ true → length (tail_of ts) + 1 ≤ length ts
begun_shorter word [] e = absurd cc
begun_shorter word (x ∷ ts) e = omega arith

found_at : (word : _) (ts : List Token) (q x : Piece) (later : List Token) → begins word ts ≡ true → ◌≡◌ {A = ReaderResult (Option Piece)} (Ok (Some q, tail_of ts)) (Ok (Some x, later)) → length later + 1 ≤ length ts
found_at word ts q x later b e = let same = ap (λ (z : Option Piece × List Token). z.1) (ok_is (Some q, tail_of ts) (Some x, later) e) in omega (arith, begun_shorter word ts b, ap length same)

predicate_shorter : (ts : List Token) (r : ReaderResult Predicate) (x : Piece) (later : List Token) → predicate_at ts ≡ r → (r >> λ v. Ok (Some (p.Predicate v.0), v.1)) ≡ Ok (Some x, later) → length later + 1 ≤ length ts
predicate_shorter ts (Err n) x later is e = absurd cc
predicate_shorter ts (Ok v) x later is e =
    let u = IsExact-predicate.takes ts v is in
    let same = ap (λ (z : Option Piece × List Token). z.1) (ok_is (Some (p.Predicate v.0), v.1) (Some x, later) e) in
    let all : length ts ≡ length (predicate_tokens v.0) + length v.1 = ap length u.parts ∙ length-append (predicate_tokens v.0) v.1 in
    omega (arith, all, ap length same)

shorter_before : (ts : List Token) (x : Piece) (later : List Token) (b c : Bool) → begins w.Not ts ≡ b → begins w.OpenParen ts ≡ c →
    cond b (Ok (Some p.Not, tail_of ts)) (cond c (Ok (Some p.Open, tail_of ts)) (predicate_at ts >> λ v. Ok (Some (p.Predicate v.0), v.1))) ≡ Ok (Some x, later) → length later + 1 ≤ length ts
shorter_before ts x later true c e f is = found_at w.Not ts p.Not x later e is
shorter_before ts x later false true e f is = found_at w.OpenParen ts p.Open x later f is
shorter_before ts x later false false e f is = predicate_shorter ts (predicate_at ts) x later refl is

shorter_closing : (ts : List Token) (x : Piece) (later : List Token) (b : Bool) → begins w.CloseParen ts ≡ b → ◌≡◌ {A = ReaderResult (Option Piece)} (cond b (Ok (Some p.Close, tail_of ts)) (Err (length ts))) (Ok (Some x, later)) → length later + 1 ≤ length ts
shorter_closing ts x later true e is = found_at w.CloseParen ts p.Close x later e is
shorter_closing ts x later false e is = absurd cc

no_piece : (ts : List Token) (x : Piece) (later : List Token) → ◌≡◌ {A = ReaderResult (Option Piece)} (Ok (None, ts)) (Ok (Some x, later)) → ⊥
no_piece ts x later e = let q : None ≡ Some x = ap (λ (z : Option Piece × List Token). z.0) (ok_is (None, ts) (Some x, later) e) in cc

shorter_close : (k : ℕ) (ts : List Token) (x : Piece) (later : List Token) → close_at k ts ≡ Ok (Some x, later) → length later + 1 ≤ length ts
shorter_close zero ts x later is = absurd (no_piece ts x later is)
shorter_close (suc k) ts x later is = shorter_closing ts x later (begins w.CloseParen ts) refl is

shorter_behind : (k : ℕ) (ts : List Token) (x : Piece) (later : List Token) (b c : Bool) → begins w.And ts ≡ b → begins w.Or ts ≡ c →
    cond b (Ok (Some p.And, tail_of ts)) (cond c (Ok (Some p.Or, tail_of ts)) (close_at k ts)) ≡ Ok (Some x, later) → length later + 1 ≤ length ts
shorter_behind k ts x later true c e f is = found_at w.And ts p.And x later e is
shorter_behind k ts x later false true e f is = found_at w.Or ts p.Or x later f is
shorter_behind k ts x later false false e f is = shorter_close k ts x later is

pub shorter : (b : Bool) (k : ℕ) (ts : List Token) (x : Piece) (later : List Token) → piece_at b k ts ≡ Ok (Some x, later) → length later + 1 ≤ length ts
shorter true k ts x later e = shorter_before ts x later (begins w.Not ts) (begins w.OpenParen ts) refl refl e
shorter false k ts x later e = shorter_behind k ts x later (begins w.And ts) (begins w.Or ts) refl refl e

opened_less : (x : Piece) (k : ℕ) → opened_after x k ≤ k + 1
opened_less p.Not k = omega arith
opened_less p.Open k = omega arith
opened_less p.Close k = omega arith
opened_less p.And k = omega arith
opened_less p.Or k = omega arith
opened_less (p.Predicate x) k = omega arith

-- ---- the loop

pub begins_read : (all : List Token) → IsRead all [] true zero all
unfolding pieces_at
begins_read all = record { turns = suc (length all); enough = omega arith; few = omega arith; same = with_no_front (before_term (suc (length all)) zero all) }

read_step : (all : List Token) (front : List Piece) (b : Bool) (k : ℕ) (rest : List Token) (n : ℕ) (x : Piece) (later : List Token) →
    with_front front (condition_from b (suc n) k rest) ≡ pieces_at all → piece_at b k rest ≡ Ok (Some x, later) → with_front (front ++ x ∷ []) (condition_from (is_before_next x) n (opened_after x k) later) ≡ pieces_at all
read_step all front b k rest n x later same e =
    let went : condition_from b (suc n) k rest ≡ one_before x (condition_from (is_before_next x) n (opened_after x k) later) = one_step b n k rest ∙ rw e refl in
    sym (one_in_front front x (condition_from (is_before_next x) n (opened_after x k) later)) ∙ ap (with_front front) (sym went) ∙ same

module _ (all : List Token) (front : List Piece) (b : Bool) (k : ℕ) (rest : List Token) where
  on_turns : (turns : ℕ) → length rest < turns → k + length rest ≤ length all → with_front front (condition_from b turns k rest) ≡ pieces_at all →
      (x : Piece) (later : List Token) → piece_at b k rest ≡ Ok (Some x, later) → IsRead all (front ++ x ∷ []) (is_before_next x) (opened_after x k) later
  on_turns zero lt few same x later e = absurd (omega arith)
  on_turns (suc n) lt few same x later e = record {
    turns = n;
    enough = omega (arith, shorter b k rest x later e);
    few = omega (arith, shorter b k rest x later e, opened_less x k);
    same = read_step all front b k rest n x later same e;
  }

  pub goes_on : IsRead all front b k rest → (x : Piece) (later : List Token) → piece_at b k rest ≡ Ok (Some x, later) → IsRead all (front ++ x ∷ []) (is_before_next x) (opened_after x k) later
  goes_on h x later e = on_turns h.turns h.enough h.few h.same x later e

  end_turns : (turns : ℕ) → length rest < turns → with_front front (condition_from b turns k rest) ≡ pieces_at all → (later : List Token) → piece_at b k rest ≡ Ok (None, later) → pieces_at all ≡ Ok (front, later)
  end_turns zero lt same later e = absurd (omega arith)
  end_turns (suc n) lt same later e =
      let went : condition_from b (suc n) k rest ≡ Ok ([], later) = one_step b n k rest ∙ rw e refl in
      sym same ∙ ap (with_front front) went ∙ ap (λ (w : List Piece). Ok (w, later)) (append-nil front)

  pub is_done : IsRead all front b k rest → (later : List Token) → piece_at b k rest ≡ Ok (None, later) → pieces_at all ≡ Ok (front, later)
  is_done h later e = end_turns h.turns h.enough h.same later e

  err_turns : (turns : ℕ) → length rest < turns → with_front front (condition_from b turns k rest) ≡ pieces_at all → (n : ℕ) → piece_at b k rest ≡ Err n → pieces_at all ≡ Err n
  err_turns zero lt same n e = absurd (omega arith)
  err_turns (suc m) lt same n e =
      let went : condition_from b (suc m) k rest ≡ Err n = one_step b m k rest ∙ rw e refl in
      sym same ∙ front_fails front (condition_from b (suc m) k rest) n went

  pub fails : IsRead all front b k rest → (stop : Stop) → StopsAs stop (piece_at b k rest) → StopsAs stop (pieces_at all)
  fails h Memory f = tt
  fails h (Wrong n) f = err_turns h.turns h.enough h.same n f

  -- An exit by `?`: the whole stops as the piece does.
  pub exits : {Y : Type 0} (seen : Y → List Piece × List Token) (result : Result Y Stop) (stop : Stop) → IsErrAnd result (λ f. f ≡ stop) → IsRead all front b k rest → StopsAs stop (piece_at b k rest) → ReadsAs seen result (pieces_at all)
  exits seen result stop is h f =
      let q = err_from_is_err_and result is in
      rw (q.1, q.2) (fails h stop f)

-- ---- the loop over a list with commas

module _ {A : Type 0} (kind : Token → Option A) (all : List Token) (front : List A) (rest : List Token) (so_far : with_front front (listed kind rest) ≡ listed kind all) where
  list_fails : (stop : Stop) → StopsAs stop (taken kind rest) → StopsAs stop (listed kind all)
  list_fails Memory f = tt
  list_fails (Wrong n) f = sym so_far ∙ front_fails front (listed kind rest) n (listed_fails kind rest n f)

  pub list_exits : {Y : Type 0} (seen : Y → List A × List Token) (result : Result Y Stop) (stop : Stop) → IsErrAnd result (λ f. f ≡ stop) → StopsAs stop (taken kind rest) → ReadsAs seen result (listed kind all)
  list_exits seen result stop is f =
      let q = err_from_is_err_and result is in
      rw (q.1, q.2) (list_fails stop f)

  pub list_ends : (a : A) (later : List Token) (pushed : List A) → taken kind rest ≡ Ok (a, later) → begins w.Comma later ≡ false → pushed ≡ front ++ a ∷ [] → listed kind all ≡ Ok (pushed, later)
  list_ends a later pushed e c is =
      let went = listed_step kind rest a later false e c in
      sym so_far ∙ ap (with_front front) went ∙ ap (λ (w : List A). Ok (w, later)) (sym is)

  pub list_goes_on : (a : A) (later next_rest : List Token) (pushed : List A) → taken kind rest ≡ Ok (a, later) → begins w.Comma later ≡ true → pushed ≡ front ++ a ∷ [] → next_rest ≡ drop 1 later →
      with_front pushed (listed kind next_rest) ≡ listed kind all
  list_goes_on a later next_rest pushed e c is back =
      let went = listed_step kind rest a later true e c in
      rw (is, back) (sym (one_in_front front a (listed kind (drop 1 later))) ∙ ap (with_front front) (sym went) ∙ so_far)
