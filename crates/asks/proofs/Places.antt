-- The first place of a name.
use Rattle.std.proofs.Common.{◌≡◌, ℕ, ◌<◌, List, length, get_or, Bool, true, false, Some, None, nat_lt, refl, arith}
use Rattle.std.specs.Prelude.{position}
use Rattle.std.proofs.lemmas.Bool.Decides.{nat_tests}
use Rattle.std.proofs.lemmas.List.Sums.{position_or_len_is}

module _ {X : Type 0} (p : X → Bool) (xs : List X) (i : ℕ) (d : X) (before : (k : ℕ) → k < i → p (get_or xs k d) ≡ false) where
  pub first_at : i < length xs → p (get_or xs i d) ≡ true → Some i ≡ position p xs
  first_at within here =
      let e = position_or_len_is p xs i d (omega (arith, within)) before (λ h. here) in
      let less : nat_lt i (length xs) ≡ true = grind (arith, nat_tests, within) in
      rw (e, less) refl

  pub nowhere : i ≡ length xs → None ≡ position p xs
  nowhere end =
      let e = position_or_len_is p xs i d (omega (arith, end)) before (λ h. absurd (omega (arith, end, h))) in
      let less : nat_lt i (length xs) ≡ false = grind (arith, nat_tests, end) in
      rw (e, less) refl
