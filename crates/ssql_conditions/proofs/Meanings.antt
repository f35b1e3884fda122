-- What a formula means is found piece by piece, among truths, bounds and values of any kind.
use Rattle.std.proofs.Common.{◌≡◌, ℕ, zero, suc, List, [], ◌∷◌, map, refl, sym, ap, ◌∙◌}
use Rattle.ssql_conditions.specs.declared.condition.TypedPiece.{TypedPiece}
use Rattle.ssql_conditions.specs.declared.condition.TypedPiece.TheVariants as p
use Rattle.ssql_conditions.specs.Formulas.{Formula, meets, Meaning, OpenGroup, formula_of, formulas, group_meaning, groups_after, groups_behind, innermost, meaning_of, negated, new_group, pieces_meaning, with_term}

module _ {A : Type 0} (m : Meaning A) where
  -- a parenthesis of formulas as one of values
  abbrev meant : OpenGroup Formula → OpenGroup A
  meant g = record { any = meaning_of m g.any; all = meaning_of m g.all; nots = g.nots }

  abbrev all_meant : List (OpenGroup Formula) → List (OpenGroup A)
  all_meant gs = map meant gs

  negated_means : (n : ℕ) (f : Formula) → meaning_of m (negated formulas n f) ≡ negated m n (meaning_of m f)
  negated_means zero f = refl
  negated_means (suc n) f = ap m.negate (negated_means n f)

  -- a parenthesis behind one more term, whatever NOT stand before it
  abbrev closed_by : OpenGroup A → A → OpenGroup A
  closed_by g v = record { any = g.any; all = m.both g.all v; nots = zero }

  term_means : (f : Formula) (g : OpenGroup Formula) → meant (with_term formulas f g) ≡ with_term m (meaning_of m f) (meant g)
  term_means f g = ap (λ (v : A). closed_by (meant g) v) (negated_means g.nots f)

  behind_means : (x : TypedPiece) (gs : List (OpenGroup Formula)) → all_meant (groups_behind formulas x gs) ≡ groups_behind m x (all_meant gs)
  behind_means p.Open gs = refl
  behind_means p.And gs = refl
  behind_means p.Not [] = refl
  behind_means p.Not (g ∷ gs) = refl
  behind_means p.Or [] = refl
  behind_means p.Or (g ∷ gs) = refl
  behind_means (p.Predicate x) [] = refl
  behind_means (p.Predicate x) (g ∷ gs) = ap (λ (h : OpenGroup A). h ∷ all_meant gs) (term_means (meets x) g)
  behind_means p.Close [] = refl
  behind_means p.Close (g ∷ []) = refl
  behind_means p.Close (g ∷ h ∷ gs) = ap (λ (i : OpenGroup A). i ∷ all_meant gs) (term_means (group_meaning formulas g) h)

  after_means : (xs : List TypedPiece) (gs : List (OpenGroup Formula)) → all_meant (groups_after formulas xs gs) ≡ groups_after m xs (all_meant gs)
  after_means [] gs = refl
  after_means (x ∷ xs) gs = after_means xs (groups_behind formulas x gs) ∙ ap (groups_after m xs) (behind_means x gs)

  innermost_means : (gs : List (OpenGroup Formula)) → meaning_of m (innermost formulas gs) ≡ innermost m (all_meant gs)
  innermost_means [] = refl
  innermost_means (g ∷ gs) = refl

  -- the meaning of the formula of pieces is what the pieces mean
  pub pieces_mean : (pieces : List TypedPiece) → pieces_meaning m pieces ≡ meaning_of m (formula_of pieces)
  pieces_mean pieces =
      sym (innermost_means (groups_after formulas pieces (new_group formulas ∷ [])) ∙ ap (innermost m) (after_means pieces (new_group formulas ∷ [])))
