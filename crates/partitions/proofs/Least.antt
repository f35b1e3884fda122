-- The least name from a number on.
use Rattle.std.proofs.Common.{◌≡◌, ℕ, ◌<◌, ◌≤◌, List, Bool, true, false, length, get_or, Some, None, Bor, ◌∙◌, ap, subst, sym, refl, arith, nat_eq, nat_lt}
use Rattle.std.specs.Prelude.{slice_get, Option, MatchOption}
use Rattle.std.specs.Option.{option_copied}
use Rattle.std.specs.List.{list_any, HoldsAt}
use Rattle.std.specs.List.Sorted.{IsNonDecreasing}
use Rattle.std.proofs.lemmas.Bool.Decides.{nat_tests}
use Rattle.std.proofs.lemmas.List.Folds.{list_any_none, list_any_at}
use Rattle.std.proofs.lemmas.List.Elements.{All-from_get_or}
use Rattle.std.proofs.lemmas.Option.{slice_get-get_or, slice_get_past}
use Rattle.partitions.specs.SortedNames.{IsLeastFrom}

module _ (xs : List ℕ) where
  none_of : (p : ℕ) → ((i : ℕ) → i < length xs → (get_or xs i 0 ≡ p → ⊥)) → list_any (nat_eq p) xs ≡ false
  none_of p others = list_any_none (nat_eq p) xs (All-from_get_or (λ x. nat_eq p x ≡ false) xs 0 (λ i h. apart (get_or xs i 0) (others i h)))
    where
      apart : (x : ℕ) → (x ≡ p → ⊥) → nat_eq p x ≡ false
      apart x not = grind (arith, nat_tests)

  same_number : (x : ℕ) → nat_eq x x ≡ true
  same_number x = grind (arith, nat_tests)

  -- a number that is there
  pub least_found : (x i : ℕ) → i < length xs → get_or xs i 0 ≡ x → IsLeastFrom (λ p. list_any (nat_eq p) xs) x (Some x)
  least_found x i h is = (omega arith, list_any_at (nat_eq x) xs i 0 h (rw is (same_number x)), λ p low high. absurd (omega arith))

  module _ (x at : ℕ) (below : (k : ℕ) → k < at → get_or xs k 0 < x) where
    -- all are below
    pub least_none : length xs ≤ at → IsLeastFrom (λ p. list_any (nat_eq p) xs) x None
    least_none past p low = none_of p (λ i h is. (let less = below i (omega arith) in omega arith))

    -- the first that isn't
    pub least_next : at < length xs → x ≤ get_or xs at 0 → IsNonDecreasing xs → IsLeastFrom (λ p. list_any (nat_eq p) xs) x (Some (get_or xs at 0))
    least_next within above sorted = (omega arith, list_any_at (nat_eq (get_or xs at 0)) xs at 0 within (same_number (get_or xs at 0)), λ p low high. none_of p (λ i h is. by p i low high h is (nat_lt i at) refl))
      where
        by : (p i : ℕ) → x ≤ p → p < get_or xs at 0 → i < length xs → get_or xs i 0 ≡ p → (b : Bool) → nat_lt i at ≡ b → ⊥
        by p i low high h is true before = let i_before : i < at = grind (arith, nat_tests) in let less = below i i_before in omega arith
        by p i low high h is false behind = let i_behind : at ≤ i = grind (arith, nat_tests) in let more = sorted at i 0 i_behind h in omega arith

  -- where all before a place are below a number, and none from there on
  pub least_from : (x at : ℕ) → ((k : ℕ) → k < at → get_or xs k 0 < x) → at ≤ length xs → ((k : ℕ) → at ≤ k → k < length xs → x ≤ get_or xs k 0) → IsNonDecreasing xs →
      IsLeastFrom (λ p. list_any (nat_eq p) xs) x (slice_get xs at)
  least_from x at below upto above sorted = by (nat_lt at (length xs)) refl
    where
      by : (b : Bool) → nat_lt at (length xs) ≡ b → IsLeastFrom (λ p. list_any (nat_eq p) xs) x (slice_get xs at)
      by true inside = let within : at < length xs = grind (arith, nat_tests) in
          subst (IsLeastFrom (λ p. list_any (nat_eq p) xs) x) (sym (slice_get-get_or xs at 0 within)) (least_next x at below within (above at (omega arith) within) sorted)
      by false outside = let past : length xs ≤ at = grind (arith, nat_tests) in
          subst (IsLeastFrom (λ p. list_any (nat_eq p) xs) x) (sym (slice_get_past xs at past)) (least_none x at below past)

  -- the item that a look-up by place lends
  pub item_is : (i : ℕ) (r : Option (Bor ℕ)) → MatchOption r (length xs ≤ i) (λ x. (i < length xs) × HoldsAt (λ y. x.now ≡ y) xs i) → slice_get xs i ≡ option_copied r
  item_is i None past = slice_get_past xs i past
  item_is i (Some b) item = slice_get-get_or xs i 0 item.0 ∙ ap (λ (x : ℕ). Some x) (sym (item.1 0))
