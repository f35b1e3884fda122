-- Rows in the order of their positions, and rows that come behind them.
use Rattle.std.proofs.Common.{◌≡◌, ◌⊎◌, inl, inr, ⊎_elim, ℕ, zero, suc, ◌+◌, List, [], ◌∷◌, ◌++◌, length, Some, refl, ◌∙◌, ap, subst, arith, length-append}
use Rattle.std.specs.Prelude.{slice_get, Contains}
use Rattle.std.proofs.lemmas.List.Elements.{Contains-append_cases, Contains-append_left, Contains-append_right}
use Rattle.std.specs.List.Sorted.{IsPermutation}
use Rattle.std.proofs.lemmas.List.Sorted.{Contains-permutation, IsPermutation-sym}
use Rattle.arch_types.specs.declared.row.Row.{Row}
use Rattle.sealed_sums.specs.InOrder.{AreInOrder}
use Rattle.run_pages.specs.Placed.{behind_positions}
use Rattle.sealed_images.specs.Sealing.{from_position}

-- ---- places in two lists

pub got_left : {X : Type 0} (xs ys : List X) (p : ℕ) (x : X) → slice_get xs p ≡ Some x → slice_get (xs ++ ys) p ≡ Some x
got_left [] ys p x is = absurd cc
got_left (y ∷ xs) ys zero x is = is
got_left (y ∷ xs) ys (suc p) x is = got_left xs ys p x is

got_right : {X : Type 0} (xs ys : List X) (k : ℕ) → slice_get (xs ++ ys) (length xs + k) ≡ slice_get ys k
got_right [] ys k = let none : 0 + k ≡ k = omega arith in ap (λ (m : ℕ). slice_get ys m) none
got_right (x ∷ xs) ys k =
    let next : suc (length xs) + k ≡ suc (length xs + k) = omega arith in
    ap (λ (m : ℕ). slice_get (x ∷ (xs ++ ys)) m) next ∙ got_right xs ys k

pub got_cases : {X : Type 0} (xs ys : List X) (p : ℕ) (x : X) → slice_get (xs ++ ys) p ≡ Some x
    → (slice_get xs p ≡ Some x) ⊎ ((k : ℕ) × (p ≡ length xs + k) × (slice_get ys k ≡ Some x))
got_cases [] ys p x is = inr (p, omega arith, is)
got_cases (y ∷ xs) ys zero x is = inl is
got_cases (y ∷ xs) ys (suc p) x is =
    ⊎_elim (λ left. inl left) (λ right. inr (right.0, omega (arith, right.1), right.2)) (got_cases xs ys p x is)

-- ---- rows from a position on

placed_at : (n : ℕ) (rows : List Row) (p : ℕ) (x : Row) → Contains (behind_positions (from_position n rows)) (p, x)
    → (k : ℕ) × (p ≡ n + k) × (slice_get rows k ≡ Some x)
placed_at n [] p x (k, lt, is) = absurd (omega (arith, lt))
placed_at n (row ∷ rows) p x (zero, lt, is) =
    let at : n ≡ p = ap (λ (a : ℕ × Row). a.0) is in
    let same : row ≡ x = ap (λ (a : ℕ × Row). a.1) is in
    (0, omega (arith, at), ap (λ (r : Row). Some r) same)
placed_at n (row ∷ rows) p x (suc k, lt, is) =
    let rest = placed_at (suc n) rows p x (k, omega (arith, lt), is) in
    (suc rest.0, omega (arith, rest.1), rest.2)

same_pair : (n m : ℕ) (x y : Row) → n ≡ m → x ≡ y → ◌≡◌ {A = ℕ × Row} (n, x) (m, y)
same_pair n m x y p q k = (p k, q k)

at_placed : (n : ℕ) (rows : List Row) (k : ℕ) (x : Row) → slice_get rows k ≡ Some x → Contains (behind_positions (from_position n rows)) (n + k, x)
at_placed n [] k x is = absurd cc
at_placed n (row ∷ rows) zero x is =
    let same : row ≡ x = cc in
    let at : n ≡ n + 0 = omega arith in
    (0, omega arith, same_pair n (n + 0) row x at same)
at_placed n (row ∷ rows) (suc k) x is =
    let at : suc n + k ≡ n + suc k = omega arith in
    let rest = subst (λ (m : ℕ). Contains (behind_positions (from_position (suc n) rows)) (m, x)) at (at_placed (suc n) rows k x is) in
    (suc rest.0, omega (arith, rest.1), rest.2)

from_length : (n : ℕ) (rows : List Row) → length (behind_positions (from_position n rows)) ≡ length rows
from_length n [] = refl
from_length n (row ∷ rows) = ap suc (from_length (suc n) rows)

-- ---- the order

-- rows in order, and rows behind them from the next position on
pub in_order_more : (xs : List (ℕ × Row)) (r rows : List Row) (n : ℕ) → n ≡ length r → AreInOrder xs r
    → AreInOrder (xs ++ behind_positions (from_position n rows)) (r ++ rows)
in_order_more xs r rows n is are = record {
  as_many = omega (arith, length-append xs (behind_positions (from_position n rows)), length-append r rows, from_length n rows, are.as_many);
  only = λ p x c. ⊎_elim (λ old. got_left r rows p x (are.only p x old))
      (λ new. let at = placed_at n rows p x new in
      let place : length r + at.0 ≡ p = omega (arith, at.1, is) in
      subst (λ (m : ℕ). slice_get (r ++ rows) m ≡ Some x) place (got_right r rows at.0 ∙ at.2))
      (Contains-append_cases xs (behind_positions (from_position n rows)) (p, x) c);
  each = λ p x g. ⊎_elim (λ old. Contains-append_left xs (behind_positions (from_position n rows)) (p, x) (are.each p x old))
      (λ new. let place : n + new.0 ≡ p = omega (arith, new.1, is) in
      Contains-append_right xs (behind_positions (from_position n rows)) (p, x)
      (subst (λ (m : ℕ). Contains (behind_positions (from_position n rows)) (m, x)) place (at_placed n rows new.0 x new.2)))
      (got_cases r rows p x g);
}

-- the order in which rows at positions stand doesn't matter
pub in_order_same : (xs ys : List (ℕ × Row)) (r : List Row) → length ys ≡ length xs → IsPermutation xs ys → AreInOrder xs r → AreInOrder ys r
in_order_same xs ys r long same are = record {
  as_many = long ∙ are.as_many;
  only = λ p x c. are.only p x (Contains-permutation ys xs (p, x) (IsPermutation-sym xs ys same) c);
  each = λ p x g. Contains-permutation xs ys (p, x) same (are.each p x g);
}
