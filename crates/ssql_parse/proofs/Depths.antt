-- The depth of a condition's pieces is the condition's.
use Rattle.std.proofs.Common.{◌≡◌, ◌+◌, Bool, true, false, List, [], ◌∷◌, ◌++◌, length, refl, sym, ap, ◌∙◌, append_assoc, arith}
use Rattle.std.specs.Prelude.{max}
use Rattle.std.proofs.lemmas.List.{append-nil}
use Rattle.ssql_parse.specs.declared.condition.Piece.{Piece}
use Rattle.ssql_parse.specs.declared.condition.Piece.TheVariants as p
use Rattle.ssql_parse.specs.Grammar.{Cond, conj, or, Conj, term, and, Term, not, group, predicate, cond_pieces, conj_pieces, term_pieces, cond_depth, conj_depth, term_depth}
use Rattle.ssql_parse.specs.Depth.{ended, deepest}

mutual
  deepest-cond : (c : Cond) (rest : List Piece) (nesting : List Bool) → ended nesting ≡ nesting → deepest (cond_pieces c ++ rest) nesting ≡ max (length nesting + cond_depth c) (deepest rest nesting)
  deepest-cond (conj c) rest nesting e = deepest-conj c rest nesting e
  deepest-cond (or c more) rest nesting e =
      let one = ap (λ (ps : List Piece). deepest ps nesting) (append_assoc (conj_pieces c) (p.Or ∷ cond_pieces more) rest) ∙ deepest-conj c (p.Or ∷ (cond_pieces more ++ rest)) nesting e in
      let two = deepest-cond more rest nesting e in
      omega (arith, one, two)

  deepest-conj : (c : Conj) (rest : List Piece) (nesting : List Bool) → ended nesting ≡ nesting → deepest (conj_pieces c ++ rest) nesting ≡ max (length nesting + conj_depth c) (deepest rest nesting)
  deepest-conj (term x) rest nesting e = deepest-term x rest nesting ∙ ap (λ (ms : List Bool). max (length nesting + term_depth x) (deepest rest ms)) e
  deepest-conj (and x more) rest nesting e =
      let one = ap (λ (ps : List Piece). deepest ps nesting) (append_assoc (term_pieces x) (p.And ∷ conj_pieces more) rest) ∙ deepest-term x (p.And ∷ (conj_pieces more ++ rest)) nesting
      ∙ ap (λ (ms : List Bool). max (length nesting + term_depth x) (deepest (p.And ∷ (conj_pieces more ++ rest)) ms)) e in
      let two = deepest-conj more rest nesting e in
      omega (arith, one, two)

  deepest-term : (x : Term) (rest : List Piece) (nesting : List Bool) → deepest (term_pieces x ++ rest) nesting ≡ max (length nesting + term_depth x) (deepest rest (ended nesting))
  deepest-term (not x) rest nesting = let one = deepest-term x rest (true ∷ nesting) in omega (arith, one)
  deepest-term (group c) rest nesting =
      let one = ap (λ (ps : List Piece). deepest ps (false ∷ nesting)) (append_assoc (cond_pieces c) (p.Close ∷ []) rest) ∙ deepest-cond c (p.Close ∷ rest) (false ∷ nesting) refl in
      omega (arith, one)
  deepest-term (predicate x) rest nesting = omega arith

pub depth_is : (c : Cond) → deepest (cond_pieces c) [] ≡ cond_depth c
depth_is c =
    let one = ap (λ (ps : List Piece). deepest ps []) (sym (append-nil (cond_pieces c))) ∙ deepest-cond c [] [] refl in
    omega (arith, one)
