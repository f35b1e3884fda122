-- A packet name looked up.
use Rattle.std.proofs.Common.{◌≡◌, ℕ, ◌<◌, ◌≤◌, List, get_or, Bool, true, false, Ok, Err, refl, sym, arith, nat_eq, nat_lt}
use Rattle.std.specs.Prelude.{Result}
use Rattle.std.specs.Result.{is_ok}
use Rattle.std.specs.List.{list_any}
use Rattle.std.specs.List.Sorted.{IsNonDecreasing, IsBinarySearchResult}
use Rattle.std.specs.Ordering.{nat_cmp}
use Rattle.std.proofs.lemmas.Bool.Decides.{nat_tests}
use Rattle.std.proofs.lemmas.List.Elements.{All-from_get_or}
use Rattle.std.proofs.lemmas.List.Folds.{list_any_none, list_any_at}
use Rattle.std.proofs.lemmas.List.Sorted.{searched}

same_number : (x : ℕ) → nat_eq x x ≡ true
same_number x = grind (arith, nat_tests)

apart : (x y : ℕ) → y < x → nat_eq x y ≡ false
apart x y less = grind (arith, nat_tests)

apart_above : (x y : ℕ) → x < y → nat_eq x y ≡ false
apart_above x y less = grind (arith, nat_tests)

-- a search finds a number exactly where it is there
pub looked : (xs : List ℕ) (x : ℕ) (r : Result ℕ ℕ) → IsBinarySearchResult (λ y. nat_cmp y x) xs r → IsNonDecreasing xs → is_ok r ≡ list_any (nat_eq x) xs
looked xs x (Ok i) found sorted =
    let at = searched xs x (Ok i) found (λ i j low high. sorted i j 0 low high) in
    sym (list_any_at (nat_eq x) xs i 0 at.0 (rw at.1 (same_number x)))
looked xs x (Err i) found sorted =
    let at = searched xs x (Err i) found (λ i j low high. sorted i j 0 low high) in
    sym (list_any_none (nat_eq x) xs (All-from_get_or (λ y. nat_eq x y ≡ false) xs 0 (λ k h. by k (at.1 k) (λ from. at.2 k from h) (nat_lt k i) refl)))
  where
    by : (k : ℕ) → (k < i → get_or xs k 0 < x) → (i ≤ k → x < get_or xs k 0) → (b : Bool) → nat_lt k i ≡ b → nat_eq x (get_or xs k 0) ≡ false
    by k below above true e = let before : k < i = grind (arith, nat_tests) in apart x (get_or xs k 0) (below before)
    by k below above false e = let behind : i ≤ k = grind (arith, nat_tests) in apart_above x (get_or xs k 0) (above behind)
