-- A list put in order is sorted, and has the same items.
use Rattle.std.proofs.Common.{◌≡◌, ℕ, ◌+◌, ◌<◌, List, [], ◌∷◌, ◌++◌, length, Bool, true, false, zero, suc, append-nil, arith, add-one}
use Rattle.std.specs.Prelude.{fold, if◌then◌else◌, slice_index_or, IsPermutation, IsSortedByKey}
use Rattle.std.specs.List.{AllByRecursion}
use Rattle.std.specs.Cmp.{IsStrictWeakOrder}
use Rattle.std.proofs.lemmas.List.Sorted.{IsPermutation-refl, IsPermutation-trans, IsPermutation-cons, IsPermutation-middle, IsPermutation-append}
use Rattle.arch_types.specs.declared.row.Row.{Row}
use Rattle.arch_types.specs.Order.{key_cmp, is_before, place_by, order_by}
use Rattle.arch_types.proofs.Ordered.{IsAscending, ascending-place}
use Rattle.arch_types.proofs.Ranks.{rows_rank}

module _ {X : Type 0} (lt : X → X → Bool) where
  ascending-fold : IsStrictWeakOrder lt → (acc xs : List X) → IsAscending lt acc → IsAscending lt (fold (place_by lt) acc xs)
  ascending-fold o acc [] up = up
  ascending-fold o acc (x ∷ xs) up = ascending-fold o (place_by lt acc x) xs (ascending-place o acc x up)

  all_at : (P : X → Type 0) (xs : List X) (k : ℕ) (d : X) → AllByRecursion P xs → k < length xs → P (slice_index_or xs k d)
  all_at P [] k d all h = absurd (omega arith)
  all_at P (x ∷ xs) zero d all h = all.0
  all_at P (x ∷ xs) (suc k) d all h = all_at P xs k d all.1 (omega arith)

  next_not_below : (xs : List X) → IsAscending lt xs → (k : ℕ) (d : X) → suc k < length xs → lt (slice_index_or xs (suc k) d) (slice_index_or xs k d) ≡ false
  next_not_below [] up k d h = absurd (omega arith)
  next_not_below (x ∷ xs) up zero d h = all_at (λ z. lt z x ≡ false) xs 0 d up.0 (omega arith)
  next_not_below (x ∷ xs) up (suc k) d h = next_not_below xs up.1 k d (omega arith)

  next_above : (xs : List X) → IsAscending lt xs → (k : ℕ) (d : X) → k + 1 < length xs → lt (slice_index_or xs (k + 1) d) (slice_index_or xs k d) ≡ false
  next_above xs up k d h = rw add-one (next_not_below xs up k d (omega arith))

  place_cases : (x y : X) (ys : List X) (b : Bool) → IsPermutation (x ∷ ys) (place_by lt ys x) → IsPermutation (x ∷ y ∷ ys) (if b then x ∷ y ∷ ys else y ∷ place_by lt ys x)
  place_cases x y ys true same = IsPermutation-refl (x ∷ y ∷ ys)
  place_cases x y ys false same = IsPermutation-trans _ _ _ (IsPermutation-middle (x ∷ []) y ys) (IsPermutation-cons y _ _ same)

  place_same : (ys : List X) (x : X) → IsPermutation (x ∷ ys) (place_by lt ys x)
  place_same [] x = IsPermutation-refl (x ∷ [])
  place_same (y ∷ ys) x = place_cases x y ys (lt x y) (place_same ys x)

  fold_same : (acc xs : List X) → IsPermutation (acc ++ xs) (fold (place_by lt) acc xs)
  fold_same acc [] = rw (append-nil acc) (IsPermutation-refl acc)
  fold_same acc (x ∷ xs) =
      IsPermutation-trans _ _ _ (IsPermutation-middle acc x xs)
      (IsPermutation-trans _ _ _ (IsPermutation-append (x ∷ acc) (place_by lt acc x) xs xs (place_same acc x) (IsPermutation-refl xs)) (fold_same (place_by lt acc x) xs))

  -- the items in order are the same items
  pub order_same : (xs : List X) → IsPermutation xs (order_by lt xs)
  order_same xs = fold_same [] xs

-- rows in order are sorted by key
pub order_sorted : (rows : List Row) → IsSortedByKey (λ (r : Row). r.key) key_cmp (order_by is_before rows)
order_sorted rows k d low h = next_above is_before (order_by is_before rows) (ascending-fold is_before rows_rank [] rows tt) k d h
