-- Filters of a list by two tests.
use Rattle.std.proofs.Common.{◌≡◌, List, [], ◌∷◌, ◌++◌, Bool, true, false, refl, sym, ap, ◌∙◌}
use Rattle.std.specs.Prelude.{filter, ◌||◌}
use Rattle.std.specs.List.{AllByRecursion}
use Rattle.std.specs.Cmp.{IsStrictWeakOrder}
use Rattle.arch_types.proofs.Ordered.{IsAscending}
use Rattle.partitions.proofs.Filters.{none_pass}

module _ {X : Type 0} where
  pub append_nil_left : (xs ys : List X) → xs ++ ys ≡ [] → xs ≡ []
  append_nil_left [] ys none = refl
  append_nil_left (x ∷ xs) ys none = absurd cc

  pub append_nil_right : (xs ys : List X) → xs ++ ys ≡ [] → ys ≡ []
  append_nil_right [] ys none = none
  append_nil_right (x ∷ xs) ys none = absurd cc

  either_cases : (p q : X → Bool) (x : X) (xs : List X) (a b : Bool) → p x ≡ a → q x ≡ b → filter p (x ∷ xs) ≡ [] → filter q (x ∷ xs) ≡ [] →
      (filter p xs ≡ [] → filter q xs ≡ [] → filter (λ z. p z || q z) xs ≡ []) → filter (λ z. p z || q z) (x ∷ xs) ≡ []
  either_cases p q x xs true b ea eb first second later = let some = rw ea at first in absurd cc
  either_cases p q x xs false true ea eb first second later = let some = rw eb at second in absurd cc
  either_cases p q x xs false false ea eb first second later = rw (ea, eb) (later (rw ea at first) (rw eb at second))

  -- where no item passes either test
  pub none_pass_either : (p q : X → Bool) (xs : List X) → filter p xs ≡ [] → filter q xs ≡ [] → filter (λ z. p z || q z) xs ≡ []
  none_pass_either p q [] first second = refl
  none_pass_either p q (x ∷ xs) first second = either_cases p q x xs (p x) (q x) refl refl first second (none_pass_either p q xs)

module _ {X : Type 0} {lt : X → X → Bool} (o : IsStrictWeakOrder lt) (p q : X → Bool) (before : (x y : X) → p x ≡ true → q y ≡ true → lt x y ≡ true) where
  none_behind : (y : X) → q y ≡ true → (xs : List X) → AllByRecursion (λ x. lt x y ≡ false) xs → AllByRecursion (λ x. p x ≡ false) xs
  none_behind y is [] all = tt
  none_behind y is (x ∷ xs) all = (by (p x) refl, none_behind y is xs all.1)
    where
      by : (b : Bool) → p x ≡ b → p x ≡ false
      by true e = let less = before x y e is in let not_less = all.0 in absurd cc
      by false e = e

  split_cases : (x : X) (xs : List X) (a b : Bool) → p x ≡ a → q x ≡ b → filter (λ z. p z || q z) xs ≡ filter p xs ++ filter q xs →
      (q x ≡ true → filter p xs ≡ []) → filter (λ z. p z || q z) (x ∷ xs) ≡ filter p (x ∷ xs) ++ filter q (x ∷ xs)
  split_cases x xs true true ea eb same none = let less = before x x ea eb in let back = o.one_way x x less in absurd cc
  split_cases x xs true false ea eb same none = rw (ea, eb) (ap (λ (w : List X). x ∷ w) same)
  split_cases x xs false true ea eb same none =
      rw (ea, eb) (ap (λ (w : List X). x ∷ w) (same ∙ ap (λ (w : List X). w ++ filter q xs) (none eb)) ∙ ap (λ (w : List X). w ++ x ∷ filter q xs) (sym (none eb)))
  split_cases x xs false false ea eb same none = rw (ea, eb) same

  -- in an ascending list those of an earlier kind stand before those of a later one
  pub split : (xs : List X) → IsAscending lt xs → filter (λ z. p z || q z) xs ≡ filter p xs ++ filter q xs
  split [] up = refl
  split (x ∷ xs) up = split_cases x xs (p x) (q x) refl refl (split xs up.1) (λ is. none_pass p xs (none_behind x is xs up.0))
