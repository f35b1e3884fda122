-- Many NOT of truths are none or one, and of bounds any is as one.
use Rattle.std.proofs.Common.{◌≡◌, ◌%◌, ℕ, zero, suc, Bool, true, false, not, refl, sym, ap, ◌∙◌, arith}
use Rattle.partitions.specs.declared.bounds.Bounds.{Bounds}
use Rattle.ssql_conditions.specs.Truth.{negated_truth}
use Rattle.ssql_conditions.specs.ConditionBounds.{all_bounds, negated_bounds}

not_not : (b : Bool) → not (not b) ≡ b
not_not true = refl
not_not false = refl

mutual
  pub even_nots : (n : ℕ) (v : Bool) → n % 2 ≡ 0 → v ≡ negated_truth n v
  even_nots zero v e = refl
  even_nots (suc n) v e = sym (not_not v) ∙ ap not (odd_nots n v (λ f. omega arith))

  pub odd_nots : (n : ℕ) (v : Bool) → (n % 2 ≡ 0 → ⊥) → not v ≡ negated_truth n v
  odd_nots zero v e = absurd (e (omega arith))
  odd_nots (suc n) v e = ap not (even_nots n v (omega arith))

pub no_nots : (n : ℕ) (bounds : Bounds) → n ≡ 0 → bounds ≡ negated_bounds n bounds
no_nots zero bounds e = refl
no_nots (suc n) bounds e = absurd (omega (arith, e))

pub some_nots : (n : ℕ) (bounds : Bounds) → (n ≡ 0 → ⊥) → all_bounds ≡ negated_bounds n bounds
some_nots zero bounds e = absurd (e refl)
some_nots (suc n) bounds e = refl
