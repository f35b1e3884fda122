-- The formula of a condition's pieces is the one by cases on the grammar.
use Rattle.std.proofs.Common.{◌≡◌, ℕ, zero, suc, List, [], ◌∷◌, ◌++◌, map, refl, sym, ap, ◌∙◌, append_assoc}
use Rattle.std.proofs.lemmas.List.{append-nil}
use Rattle.ssql_parse.specs.declared.condition.Predicate.{Predicate}
use Rattle.ssql_parse.specs.declared.condition.Piece.{Piece}
use Rattle.ssql_parse.specs.declared.condition.Piece.TheVariants as w
use Rattle.ssql_parse.specs.Grammar.{Cond, conj, or, Conj, term, and, Term, not, group, predicate, cond_pieces, conj_pieces, term_pieces}
use Rattle.ssql_conditions.specs.declared.condition.TypedPiece.{TypedPiece}
use Rattle.ssql_conditions.specs.declared.predicate.TypedPredicate.{TypedPredicate}
use Rattle.ssql_types.specs.Typed.{typed_piece, typed_predicate}
use Rattle.ssql_conditions.specs.Formulas.{Formula, always, never, negation, conjunction, disjunction, OpenGroup, formula_of, formulas, groups_after, innermost, negated, new_group}
use Rattle.ssql_types.specs.ConditionFormula.{cond_formula, conj_formula, term_formula, condition_formula}

negated_negation : (n : ℕ) (f : Formula) → negated formulas n (negation f) ≡ negation (negated formulas n f)
negated_negation zero f = refl
negated_negation (suc n) f = ap negation (negated_negation n f)

abbrev group_at : Formula → Formula → ℕ → OpenGroup Formula
group_at any all n = record { any = any; all = all; nots = n }

module _ (names : List (List ℕ)) where
  abbrev typed : Predicate → TypedPredicate
  typed x = typed_predicate names x

  abbrev typed_all : List Piece → List TypedPiece
  typed_all ps = map (typed_piece names) ps

  -- the parenthesis behind a condition that begins where these conjunctions stand before it
  abbrev ended_by : Formula → Cond → OpenGroup Formula
  ended_by any (conj c) = group_at any (conj_formula typed always c) zero
  ended_by any (or c more) = ended_by (disjunction any (conj_formula typed always c)) more

  ended_means : (any : Formula) (c : Cond) → disjunction (ended_by any c).any (ended_by any c).all ≡ cond_formula typed any c
  ended_means any (conj c) = refl
  ended_means any (or c more) = ended_means (disjunction any (conj_formula typed always c)) more

  ended_nots : (any : Formula) (c : Cond) → (ended_by any c).nots ≡ zero
  ended_nots any (conj c) = refl
  ended_nots any (or c more) = ended_nots (disjunction any (conj_formula typed always c)) more

  abbrev after : List Piece → List (OpenGroup Formula) → List (OpenGroup Formula)
  after ps gs = groups_after formulas (typed_all ps) gs

  mutual
    after_cond : (c : Cond) (any : Formula) (rest : List Piece) (gs : List (OpenGroup Formula)) → after (cond_pieces c ++ rest) (group_at any always zero ∷ gs) ≡ after rest (ended_by any c ∷ gs)
    after_cond (conj c) any rest gs = after_conj c any always rest gs
    after_cond (or c more) any rest gs =
        ap (λ (ps : List Piece). after ps (group_at any always zero ∷ gs)) (append_assoc (conj_pieces c) (w.Or ∷ cond_pieces more) rest)
        ∙ after_conj c any always (w.Or ∷ (cond_pieces more ++ rest)) gs
        ∙ after_cond more (disjunction any (conj_formula typed always c)) rest gs

    after_conj : (c : Conj) (any all : Formula) (rest : List Piece) (gs : List (OpenGroup Formula)) →
        after (conj_pieces c ++ rest) (group_at any all zero ∷ gs) ≡ after rest (group_at any (conj_formula typed all c) zero ∷ gs)
    after_conj (term x) any all rest gs = after_term x any all zero rest gs
    after_conj (and x more) any all rest gs =
        ap (λ (ps : List Piece). after ps (group_at any all zero ∷ gs)) (append_assoc (term_pieces x) (w.And ∷ conj_pieces more) rest)
        ∙ after_term x any all zero (w.And ∷ (conj_pieces more ++ rest)) gs
        ∙ after_conj more any (conjunction all (term_formula typed x)) rest gs

    after_term : (x : Term) (any all : Formula) (n : ℕ) (rest : List Piece) (gs : List (OpenGroup Formula)) →
        after (term_pieces x ++ rest) (group_at any all n ∷ gs) ≡ after rest (group_at any (conjunction all (negated formulas n (term_formula typed x))) zero ∷ gs)
    after_term (not x) any all n rest gs =
        after_term x any all (suc n) rest gs
        ∙ ap (λ (f : Formula). after rest (group_at any (conjunction all f) zero ∷ gs)) (sym (negated_negation n (term_formula typed x)))
    after_term (group c) any all n rest gs =
        ap (λ (ps : List Piece). after ps (new_group formulas ∷ group_at any all n ∷ gs)) (append_assoc (cond_pieces c) (w.Close ∷ []) rest)
        ∙ after_cond c never (w.Close ∷ rest) (group_at any all n ∷ gs)
        ∙ ap (λ (f : Formula). after rest (group_at any (conjunction all (negated formulas n f)) zero ∷ gs)) (ended_means never c)
    after_term (predicate x) any all n rest gs = refl

  pub grammar_formula : (c : Cond) → formula_of (typed_all (cond_pieces c)) ≡ condition_formula typed c
  grammar_formula c =
      ap (λ (ps : List Piece). innermost formulas (after ps (new_group formulas ∷ []))) (sym (append-nil (cond_pieces c)))
      ∙ ap (innermost formulas) (after_cond c never [] [])
      ∙ ended_means never c
