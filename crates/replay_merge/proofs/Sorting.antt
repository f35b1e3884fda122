-- Ascending lists that agree on what ties are the same.
use Rattle.std.proofs.Common.{◌≡◌, suc, ◌+◌, List, [], ◌∷◌, Bool, true, false, refl, sym, ap, ◌∙◌, arith}
use Rattle.std.specs.Prelude.{filter}
use Rattle.std.specs.List.{AllByRecursion}
use Rattle.std.specs.List.Sorted.{IsSortedBy, ties}
use Rattle.std.specs.Cmp.{IsStrictWeakOrder}
use Rattle.std.proofs.lemmas.List.Elements.{recursion_from_All}
use Rattle.std.proofs.lemmas.List.Sorted.{sorted_far}
use Rattle.arch_types.proofs.Ordered.{IsAscending}
use Rattle.partitions.proofs.Filters.{none_pass}

module _ {X : Type 0} {lt : X → X → Bool} (o : IsStrictWeakOrder lt) where
  pub ascending : (xs : List X) → IsSortedBy lt xs → IsAscending lt xs
  ascending [] up = tt
  ascending (x ∷ xs) up = (recursion_from_All (λ z. lt z x ≡ false) xs (λ k d h. sorted_far lt o (x ∷ xs) up 0 (suc k) d (omega arith) (omega (arith, h))), ascending xs tail)
    where
      tail : IsSortedBy lt xs
      tail k d low h = let e : suc k + 1 ≡ suc (k + 1) = omega arith in rw e at (up (suc k) d (omega arith) (omega (arith, h)))

  irreflexive : (x : X) → lt x x ≡ false
  irreflexive x = by (lt x x) refl
    where
      by : (b : Bool) → lt x x ≡ b → lt x x ≡ false
      by true e = o.one_way x x e
      by false e = e

  pub tied_with_itself : (x : X) → ties lt x x ≡ true
  tied_with_itself x = rw (irreflexive x) refl

  above_untied : (x y : X) → lt x y ≡ true → (zs : List X) → AllByRecursion (λ z. lt z y ≡ false) zs → AllByRecursion (λ z. ties lt x z ≡ false) zs
  above_untied x y less [] all = tt
  above_untied x y less (z ∷ zs) all = (by (lt x z) refl, above_untied x y less zs all.1)
    where
      by : (b : Bool) → lt x z ≡ b → ties lt x z ≡ false
      by true e = rw e refl
      by false e = let chained = o.chain x z y e all.0 in absurd cc

  none_tied : (x y : X) (ys : List X) → lt x y ≡ true → AllByRecursion (λ z. lt z y ≡ false) ys → filter (ties lt x) (y ∷ ys) ≡ []
  none_tied x y ys less all = none_pass (ties lt x) (y ∷ ys) (let e : ties lt x y ≡ false = rw less refl in e, above_untied x y less ys all)

  first_tied : (x : X) (xs : List X) → filter (ties lt x) (x ∷ xs) ≡ x ∷ filter (ties lt x) xs
  first_tied x xs = rw (tied_with_itself x) refl

  tails : (x z : X) (xs ys : List X) (b : Bool) → ties lt z x ≡ b → filter (ties lt z) (x ∷ xs) ≡ filter (ties lt z) (x ∷ ys) → filter (ties lt z) xs ≡ filter (ties lt z) ys
  tails x z xs ys true e same = let cut = rw e at same in cc
  tails x z xs ys false e same = rw e at same

  heads : (x y : X) (xs ys : List X) (a b : Bool) → lt x y ≡ a → lt y x ≡ b → IsAscending lt (x ∷ xs) → IsAscending lt (y ∷ ys) →
      ((z : X) → filter (ties lt z) (x ∷ xs) ≡ filter (ties lt z) (y ∷ ys)) → x ≡ y
  heads x y xs ys true b ea eb up_x up_y same =
      let none = none_tied x y ys ea up_y.0 in let some = first_tied x xs in let both = same x in absurd cc
  heads x y xs ys false true ea eb up_x up_y same =
      let none = none_tied y x xs eb up_x.0 in let some = first_tied y ys in let both = same y in absurd cc
  heads x y xs ys false false ea eb up_x up_y same =
      let tied : ties lt x y ≡ true = rw (ea, eb) refl in
      let first = first_tied x xs in
      let second : filter (ties lt x) (y ∷ ys) ≡ y ∷ filter (ties lt x) ys = rw tied refl in
      let both = same x in cc

  -- two ascending lists of which the items that tie with any one are the same, in one order, are the same
  pub same_sorted : (xs ys : List X) → IsAscending lt xs → IsAscending lt ys → ((z : X) → filter (ties lt z) xs ≡ filter (ties lt z) ys) → xs ≡ ys
  same_sorted [] [] up_x up_y same = refl
  same_sorted [] (y ∷ ys) up_x up_y same = let some = first_tied y ys in let both = same y in absurd cc
  same_sorted (x ∷ xs) [] up_x up_y same = let some = first_tied x xs in let both = same x in absurd cc
  same_sorted (x ∷ xs) (y ∷ ys) up_x up_y same =
      let head : x ≡ y = heads x y xs ys (lt x y) (lt y x) refl refl up_x up_y same in
      let tail : xs ≡ ys = same_sorted xs ys up_x.1 up_y.1 (λ z. tails x z xs ys (ties lt z x) refl (same z ∙ ap (λ (w : X). filter (ties lt z) (w ∷ ys)) (sym head))) in
      cc
