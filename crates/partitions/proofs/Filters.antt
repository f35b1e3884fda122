-- Filters of a list by two tests.
use Rattle.std.proofs.Common.{◌≡◌, List, [], ◌∷◌, ◌++◌, Bool, true, false, cond, refl, ap}
use Rattle.std.specs.Prelude.{filter, IsPermutation, ◌||◌, ◌&&◌}
use Rattle.std.specs.List.{AllByRecursion}
use Rattle.std.proofs.lemmas.List.Sorted.{IsPermutation-refl, IsPermutation-cons, IsPermutation-middle, IsPermutation-sym, IsPermutation-trans}

module _ {X : Type 0} where
  -- where no item passes, none is left
  pub none_pass : (q : X → Bool) (xs : List X) → AllByRecursion (λ x. q x ≡ false) xs → filter q xs ≡ []
  none_pass q [] all = refl
  none_pass q (x ∷ xs) all = rw all.0 (none_pass q xs all.1)

  swap_cases : (p q : X → Bool) (x : X) (xs : List X) (a b : Bool) → p x ≡ a → q x ≡ b → filter p (filter q xs) ≡ filter q (filter p xs) →
      filter p (cond b (x ∷ filter q xs) (filter q xs)) ≡ filter q (cond a (x ∷ filter p xs) (filter p xs))
  swap_cases p q x xs true true ea eb same = rw (ea, eb) (ap (λ (w : List X). x ∷ w) same)
  swap_cases p q x xs true false ea eb same = rw eb same
  swap_cases p q x xs false true ea eb same = rw ea same
  swap_cases p q x xs false false ea eb same = same

  filter_twice : (p q : X → Bool) (x : X) (xs : List X) (a b : Bool) → p x ≡ a → q x ≡ b → filter p (filter q xs) ≡ filter q (filter p xs) →
      filter p (filter q (x ∷ xs)) ≡ filter q (filter p (x ∷ xs))
  filter_twice p q x xs a b ea eb same = rw (ea, eb) (swap_cases p q x xs a b ea eb same)

  -- in which order two tests are asked is the same
  pub filter_swap : (p q : X → Bool) (xs : List X) → filter p (filter q xs) ≡ filter q (filter p xs)
  filter_swap p q [] = refl
  filter_swap p q (x ∷ xs) = filter_twice p q x xs (p x) (q x) refl refl (filter_swap p q xs)

  both_cases : (p q : X → Bool) (x : X) (xs : List X) (a b : Bool) → p x ≡ a → q x ≡ b → filter (λ z. p z && q z) xs ≡ filter q (filter p xs) →
      filter (λ z. p z && q z) (x ∷ xs) ≡ filter q (filter p (x ∷ xs))
  both_cases p q x xs true true ea eb same = rw (ea, eb) (ap (λ (w : List X). x ∷ w) same)
  both_cases p q x xs true false ea eb same = rw (ea, eb) same
  both_cases p q x xs false b ea eb same = rw ea same

  -- a test of both is one after the other
  pub filter_both : (p q : X → Bool) (xs : List X) → filter (λ z. p z && q z) xs ≡ filter q (filter p xs)
  filter_both p q [] = refl
  filter_both p q (x ∷ xs) = both_cases p q x xs (p x) (q x) refl refl (filter_both p q xs)

  -- what passes one of two tests of which no item passes both
  module _ (p q : X → Bool) (apart : (x : X) → p x ≡ true → q x ≡ false) where
    either_moves : (x : X) (xs : List X) (a b : Bool) → p x ≡ a → q x ≡ b → IsPermutation (filter (λ z. p z || q z) xs) (filter p xs ++ filter q xs) →
        IsPermutation (filter (λ z. p z || q z) (x ∷ xs)) (filter p (x ∷ xs) ++ filter q (x ∷ xs))
    either_moves x xs true true ea eb same = let other = apart x ea in absurd cc
    either_moves x xs true false ea eb same = rw (ea, eb) (IsPermutation-cons x (filter (λ z. p z || q z) xs) (filter p xs ++ filter q xs) same)
    either_moves x xs false true ea eb same =
        rw (ea, eb) (IsPermutation-trans (x ∷ filter (λ z. p z || q z) xs) (x ∷ (filter p xs ++ filter q xs)) (filter p xs ++ x ∷ filter q xs)
        (IsPermutation-cons x (filter (λ z. p z || q z) xs) (filter p xs ++ filter q xs) same)
        (IsPermutation-sym (filter p xs ++ x ∷ filter q xs) (x ∷ (filter p xs ++ filter q xs)) (IsPermutation-middle (filter p xs) x (filter q xs))))
    either_moves x xs false false ea eb same = rw (ea, eb) same

    pub either_moved : (xs : List X) → IsPermutation (filter (λ z. p z || q z) xs) (filter p xs ++ filter q xs)
    either_moved [] = IsPermutation-refl []
    either_moved (x ∷ xs) = either_moves x xs (p x) (q x) refl refl (either_moved xs)
