-- Pieces that go on from one to the next are a condition, and each condition is such pieces.
use Rattle.std.proofs.Common.{◌≡◌, ℕ, zero, suc, ◌+◌, ◌*◌, ◌≤◌, true, List, [], ◌∷◌, ◌++◌, length, refl, sym, ap, ◌∙◌, append_assoc, arith}
use Rattle.std.proofs.lemmas.List.{append-nil}
use Rattle.ssql_parse.specs.declared.condition.Piece.{Piece}
use Rattle.ssql_parse.specs.declared.condition.Piece.TheVariants as p
use Rattle.ssql_parse.specs.Grammar.{Cond, conj, or, Conj, term, and, Term, not, group, predicate, cond_pieces, conj_pieces, term_pieces, AreConditionPieces}
use Rattle.ssql_parse.specs.Pieces.{goes_before, goes_behind}

-- ---- a condition's pieces go on

mutual
  pub goes-cond : (c : Cond) (rest : List Piece) (opened : ℕ) → goes_before (cond_pieces c ++ rest) opened ≡ goes_behind rest opened
  goes-cond (conj c) rest opened = goes-conj c rest opened
  goes-cond (or c more) rest opened =
      ap (λ (ps : List Piece). goes_before ps opened) (append_assoc (conj_pieces c) (p.Or ∷ cond_pieces more) rest)
      ∙ goes-conj c (p.Or ∷ (cond_pieces more ++ rest)) opened ∙ goes-cond more rest opened

  pub goes-conj : (c : Conj) (rest : List Piece) (opened : ℕ) → goes_before (conj_pieces c ++ rest) opened ≡ goes_behind rest opened
  goes-conj (term x) rest opened = goes-term x rest opened
  goes-conj (and x more) rest opened =
      ap (λ (ps : List Piece). goes_before ps opened) (append_assoc (term_pieces x) (p.And ∷ conj_pieces more) rest)
      ∙ goes-term x (p.And ∷ (conj_pieces more ++ rest)) opened ∙ goes-conj more rest opened

  pub goes-term : (x : Term) (rest : List Piece) (opened : ℕ) → goes_before (term_pieces x ++ rest) opened ≡ goes_behind rest opened
  goes-term (not x) rest opened = goes-term x rest opened
  goes-term (group c) rest opened =
      ap (λ (ps : List Piece). goes_before ps (suc opened)) (append_assoc (cond_pieces c) (p.Close ∷ []) rest)
      ∙ goes-cond c (p.Close ∷ rest) (suc opened)
  goes-term (predicate x) rest opened = refl

pub condition_goes : (pieces : List Piece) → AreConditionPieces pieces → goes_before pieces zero ≡ true
condition_goes pieces is =
    ap (λ (ps : List Piece). goes_before ps zero) (sym is.1 ∙ sym (append-nil (cond_pieces is.0))) ∙ goes-cond is.0 [] zero

-- ---- what goes on is a condition

record HasTerm (ps : List Piece) (opened : ℕ) : Type 0 where
  x : Term
  rest : List Piece
  parts : ps ≡ term_pieces x ++ rest
  goes : goes_behind rest opened ≡ true
  shorter : length rest + 1 ≤ length ps

abbrev IsNoAnd : List Piece → Type 0
IsNoAnd rest = (more : List Piece) → rest ≡ p.And ∷ more → ⊥

record HasConj (ps : List Piece) (opened : ℕ) : Type 0 where
  x : Conj
  rest : List Piece
  parts : ps ≡ conj_pieces x ++ rest
  goes : goes_behind rest opened ≡ true
  shorter : length rest + 1 ≤ length ps
  no_and : IsNoAnd rest

-- the end, or the parenthesis that closes
abbrev Ends : List Piece → ℕ → Type 0
Ends rest zero = rest ≡ []
Ends rest (suc opened) = (more : List Piece) × (rest ≡ p.Close ∷ more) × (goes_behind more opened ≡ true)

record HasCond (ps : List Piece) (opened : ℕ) : Type 0 where
  x : Cond
  rest : List Piece
  parts : ps ≡ cond_pieces x ++ rest
  ends : Ends rest opened
  shorter : length rest + 1 ≤ length ps

closes : (ps : List Piece) (opened : ℕ) → goes_behind (p.Close ∷ ps) opened ≡ true → Ends (p.Close ∷ ps) opened
closes ps zero g = absurd cc
closes ps (suc opened) g = (ps, refl, g)

at_end : (opened : ℕ) → goes_behind [] opened ≡ true → Ends [] opened
at_end zero g = refl
at_end (suc opened) g = absurd cc

-- a group, from its inside
grouped : (ps : List Piece) (opened : ℕ) → HasCond ps (suc opened) → HasTerm (p.Open ∷ ps) opened
grouped ps opened h = record {
  x = group h.x;
  rest = h.ends.0;
  parts = ap (λ (w : List Piece). p.Open ∷ w) (h.parts ∙ ap (λ (w : List Piece). cond_pieces h.x ++ w) h.ends.1 ∙ sym (append_assoc (cond_pieces h.x) (p.Close ∷ []) h.ends.0));
  goes = h.ends.2;
  shorter = let s : length h.rest ≡ suc (length h.ends.0) = ap length h.ends.1 in omega (arith, s, h.shorter);
}

-- what follows a term, given what a conjunction behind AND has
conj_on : (ps : List Piece) (opened : ℕ) (x : Term) (rest : List Piece) → ((more : List Piece) → length more + 1 ≤ length rest → goes_before more opened ≡ true → HasConj more opened) →
    ps ≡ term_pieces x ++ rest → goes_behind rest opened ≡ true → length rest + 1 ≤ length ps → HasConj ps opened
conj_on ps opened x [] again parts g shorter = record { x = term x; rest = []; parts = parts; goes = g; shorter = shorter; no_and = λ more e. cc }
conj_on ps opened x (p.And ∷ rest) again parts g shorter =
    let h = again rest (omega arith) g in
    record {
      x = and x h.x;
      rest = h.rest;
      parts = parts ∙ ap (λ (w : List Piece). term_pieces x ++ p.And ∷ w) h.parts ∙ sym (append_assoc (term_pieces x) (p.And ∷ conj_pieces h.x) h.rest);
      goes = h.goes;
      shorter = omega (arith, h.shorter);
      no_and = h.no_and;
    }
conj_on ps opened x (p.Not ∷ rest) again parts g shorter = absurd cc
conj_on ps opened x (p.Open ∷ rest) again parts g shorter = absurd cc
conj_on ps opened x (p.Predicate y ∷ rest) again parts g shorter = absurd cc
conj_on ps opened x (p.Close ∷ rest) again parts g shorter = record { x = term x; rest = p.Close ∷ rest; parts = parts; goes = g; shorter = shorter; no_and = λ more e. cc }
conj_on ps opened x (p.Or ∷ rest) again parts g shorter = record { x = term x; rest = p.Or ∷ rest; parts = parts; goes = g; shorter = shorter; no_and = λ more e. cc }

-- what follows a conjunction, given what a condition behind OR has
cond_on : (ps : List Piece) (opened : ℕ) (x : Conj) (rest : List Piece) → ((more : List Piece) → length more + 1 ≤ length rest → goes_before more opened ≡ true → HasCond more opened) →
    ps ≡ conj_pieces x ++ rest → goes_behind rest opened ≡ true → length rest + 1 ≤ length ps → IsNoAnd rest → HasCond ps opened
cond_on ps opened x [] again parts g shorter last = record { x = conj x; rest = []; parts = parts; ends = at_end opened g; shorter = shorter }
cond_on ps opened x (p.Or ∷ rest) again parts g shorter last =
    let h = again rest (omega arith) g in
    record {
      x = or x h.x;
      rest = h.rest;
      parts = parts ∙ ap (λ (w : List Piece). conj_pieces x ++ p.Or ∷ w) h.parts ∙ sym (append_assoc (conj_pieces x) (p.Or ∷ cond_pieces h.x) h.rest);
      ends = h.ends;
      shorter = omega (arith, h.shorter);
    }
cond_on ps opened x (p.Close ∷ rest) again parts g shorter last = record { x = conj x; rest = p.Close ∷ rest; parts = parts; ends = closes rest opened g; shorter = shorter }
cond_on ps opened x (p.And ∷ rest) again parts g shorter last = absurd (last rest refl)
cond_on ps opened x (p.Not ∷ rest) again parts g shorter last = absurd cc
cond_on ps opened x (p.Open ∷ rest) again parts g shorter last = absurd cc
cond_on ps opened x (p.Predicate y ∷ rest) again parts g shorter last = absurd cc

-- The number bounds the turns.
mutual
  term_in : (n : ℕ) (ps : List Piece) (opened : ℕ) → 3 * length ps + 1 ≤ n → goes_before ps opened ≡ true → HasTerm ps opened
  term_in zero ps opened lt g = absurd (omega arith)
  term_in (suc n) [] opened lt g = absurd cc
  term_in (suc n) (p.Not ∷ ps) opened lt g =
      let h = term_in n ps opened (omega arith) g in
      record { x = not h.x; rest = h.rest; parts = ap (λ (w : List Piece). p.Not ∷ w) h.parts; goes = h.goes; shorter = omega (arith, h.shorter) }
  term_in (suc n) (p.Open ∷ ps) opened lt g = grouped ps opened (cond_in n ps (suc opened) (omega arith) g)
  term_in (suc n) (p.Close ∷ ps) opened lt g = absurd cc
  term_in (suc n) (p.And ∷ ps) opened lt g = absurd cc
  term_in (suc n) (p.Or ∷ ps) opened lt g = absurd cc
  term_in (suc n) (p.Predicate x ∷ ps) opened lt g = record { x = predicate x; rest = ps; parts = refl; goes = g; shorter = omega arith }

  conj_in : (n : ℕ) (ps : List Piece) (opened : ℕ) → 3 * length ps + 2 ≤ n → goes_before ps opened ≡ true → HasConj ps opened
  conj_in zero ps opened lt g = absurd (omega arith)
  conj_in (suc n) ps opened lt g =
      let h = term_in n ps opened (omega arith) g in
      conj_on ps opened h.x h.rest (λ more less goes. conj_in n more opened (omega (arith, h.shorter, less)) goes) h.parts h.goes h.shorter

  cond_in : (n : ℕ) (ps : List Piece) (opened : ℕ) → 3 * length ps + 3 ≤ n → goes_before ps opened ≡ true → HasCond ps opened
  cond_in zero ps opened lt g = absurd (omega arith)
  cond_in (suc n) ps opened lt g =
      let h = conj_in n ps opened (omega arith) g in
      cond_on ps opened h.x h.rest (λ more less goes. cond_in n more opened (omega (arith, h.shorter, less)) goes) h.parts h.goes h.shorter h.no_and

pub goes_is_condition : (pieces : List Piece) → goes_before pieces zero ≡ true → AreConditionPieces pieces
goes_is_condition pieces g =
    let h = cond_in (3 * length pieces + 3) pieces zero (omega arith) g in
    (h.x, sym (append-nil (cond_pieces h.x)) ∙ ap (λ (w : List Piece). cond_pieces h.x ++ w) (sym h.ends) ∙ sym h.parts)
