-- The parentheses of a condition that isn't too deep fit into the room for them.
use Rattle.std.proofs.Common.{◌≡◌, ℕ, ◌+◌, ◌-◌, ◌<◌, ◌≤◌, nat_lt, Bool, true, ◌&&◌, List, [], ◌∷◌, ◌++◌, map, Option, Some, None, refl, sym, ap, ◌∙◌, append_assoc, arith}
use Rattle.std.proofs.lemmas.Bool.Decides.{nat_tests}
use Rattle.std.proofs.lemmas.List.{append-nil}
use Rattle.ssql_parse.specs.declared.condition.Piece.{Piece}
use Rattle.ssql_parse.specs.declared.condition.Piece.TheVariants as w
use Rattle.ssql_parse.specs.Grammar.{Cond, conj, or, Conj, term, and, Term, not, group, predicate, cond_pieces, conj_pieces, term_pieces, cond_depth, conj_depth, term_depth, AreConditionPieces, IsFilter, IsIfAny}
use Rattle.ssql_parse.specs.Depth.{deepest, filter_depth}
use Rattle.ssql_parse.proofs.Depths.{depth_is}
use Rattle.ssql_conditions.specs.declared.condition.TypedPiece.{TypedPiece}
use Rattle.ssql_types.specs.Typed.{typed_piece}
use Rattle.ssql_conditions.specs.Formulas.{parens_fit}

lt_is : (a b : ℕ) → a < b → nat_lt a b ≡ true
lt_is a b h = grind (arith, nat_tests)

option_same : (xs ys : List Piece) → Some xs ≡ Some ys → xs ≡ ys
option_same xs ys e = cc

module _ (names : List (List ℕ)) where
  abbrev fit : List Piece → ℕ → Bool
  fit ps n = parens_fit (map (typed_piece names) ps) n

  mutual
    cond_fits : (c : Cond) (n : ℕ) (rest : List Piece) → n + cond_depth c ≤ 32 → fit rest n ≡ true → fit (cond_pieces c ++ rest) n ≡ true
    cond_fits (conj c) n rest h fits = conj_fits c n rest h fits
    cond_fits (or c more) n rest h fits =
        ap (λ (ps : List Piece). fit ps n) (append_assoc (conj_pieces c) (w.Or ∷ cond_pieces more) rest)
        ∙ conj_fits c n (w.Or ∷ (cond_pieces more ++ rest)) (omega (arith, h)) (cond_fits more n rest (omega (arith, h)) fits)

    conj_fits : (c : Conj) (n : ℕ) (rest : List Piece) → n + conj_depth c ≤ 32 → fit rest n ≡ true → fit (conj_pieces c ++ rest) n ≡ true
    conj_fits (term x) n rest h fits = term_fits x n rest h fits
    conj_fits (and x more) n rest h fits =
        ap (λ (ps : List Piece). fit ps n) (append_assoc (term_pieces x) (w.And ∷ conj_pieces more) rest)
        ∙ term_fits x n (w.And ∷ (conj_pieces more ++ rest)) (omega (arith, h)) (conj_fits more n rest (omega (arith, h)) fits)

    term_fits : (x : Term) (n : ℕ) (rest : List Piece) → n + term_depth x ≤ 32 → fit rest n ≡ true → fit (term_pieces x ++ rest) n ≡ true
    term_fits (not x) n rest h fits = term_fits x n rest (omega (arith, h)) fits
    term_fits (group c) n rest h fits =
        let less : n + 1 - 1 ≡ n = omega arith in
        let room : nat_lt n 32 ≡ true = lt_is n 32 (omega (arith, h)) in
        let inside : fit (cond_pieces c ++ w.Close ∷ rest) (n + 1) ≡ true = cond_fits c (n + 1) (w.Close ∷ rest) (omega (arith, h)) (ap (fit rest) less ∙ fits) in
        ap (λ (ps : List Piece). fit (w.Open ∷ ps) n) (append_assoc (cond_pieces c) (w.Close ∷ []) rest)
        ∙ ap (λ (b : Bool). b && fit (cond_pieces c ++ w.Close ∷ rest) (n + 1)) room ∙ inside
    term_fits (predicate x) n rest h fits = fits

  pub condition_fits : (pieces : List Piece) → AreConditionPieces pieces → deepest pieces [] ≤ 32 → fit pieces 0 ≡ true
  condition_fits pieces is shallow =
      let same : deepest pieces [] ≡ cond_depth is.0 = ap (λ (ps : List Piece). deepest ps []) (sym is.1) ∙ depth_is is.0 in
      ap (λ (ps : List Piece). fit ps 0) (sym is.1 ∙ sym (append-nil (cond_pieces is.0)))
      ∙ cond_fits is.0 0 [] (omega (arith, same, shallow)) refl

  -- the pieces of a filter that is written
  pub filter_fits : (filter : Option (List Piece)) (pieces slice : List Piece) (typed : List TypedPiece) → filter ≡ Some pieces → slice ≡ pieces → typed ≡ map (typed_piece names) slice →
      IsIfAny IsFilter filter → filter_depth filter ≤ 32 → parens_fit typed 0 ≡ true
  filter_fits None pieces slice typed is same means are shallow = absurd cc
  filter_fits (Some xs) pieces slice typed is same means are shallow =
      let all : xs ≡ slice = option_same xs pieces is ∙ sym same in
      ap (λ (ps : List TypedPiece). parens_fit ps 0) (means ∙ ap (map (typed_piece names)) (sym all)) ∙ condition_fits xs are.0 shallow
