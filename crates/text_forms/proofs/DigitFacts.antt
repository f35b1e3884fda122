-- Digits at their places.
use Rattle.std.proofs.Common.{◌≡◌, ℕ, ◌+◌, ◌-◌, ◌*◌, ◌^◌, ◌<◌, ◌≤◌, true, leb, List, length, take, get_or, inl, inr, arith}
use Rattle.std.specs.List.{list_all}
use Rattle.std.proofs.lemmas.Bool.{cases_Bool, and_parts, leb-true, both_ways}
use Rattle.std.proofs.lemmas.List.Folds.{list_all_at}
use Rattle.std.proofs.lemmas.List.Sums.{fold_more}
use Rattle.std.proofs.lemmas.Grind.{pow_more}
use Rattle.text_forms.specs.Digits.{is_digit, decimal_value}

-- a digit among digits
pub digit_at : (digits : List ℕ) (i : ℕ) → i < length digits → list_all is_digit digits ≡ true → (48 ≤ get_or digits i 0) × (get_or digits i 0 ≤ 57)
digit_at digits i within all =
    elim (cases_Bool (is_digit (get_or digits i 0))) [
      | inl passed ↦
          let both = and_parts (leb 48 (get_or digits i 0)) (leb (get_or digits i 0) 57) passed in
          (leb-true _ _ both.0, leb-true _ _ both.1)
      | inr failed ↦ absurd (both_ways _ (list_all_at is_digit digits i 0 within failed) all)
    ]

-- one digit more
pub decimal_value_more : (digits : List ℕ) (i : ℕ) → i < length digits → decimal_value (take (i + 1) digits) ≡ 10 * decimal_value (take i digits) + (get_or digits i 0 - 48)
decimal_value_more digits i within = fold_more _ _ digits i 0 within

pub pow_next : (i : ℕ) → 10 ^ (i + 1) ≡ 10 * 10 ^ i
pow_next i = omega (arith, pow_more 10 i)
