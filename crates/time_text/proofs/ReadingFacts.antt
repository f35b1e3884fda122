-- Parts of a civil text.
use Rattle.std.proofs.Common.{◌≡◌, ◌≢◌, ℕ, zero, suc, ◌-◌, ◌*◌, ◌^◌, ◌<◌, ◌≤◌, not, true, false, eqb, List, length, take, drop, None, refl, sym, arith, length-take}
use Rattle.std.specs.Prelude.{codes}
use Rattle.std.specs.List.{list_all}
use Rattle.std.proofs.lemmas.Bool.{and_parts, and_left, false_from_ne_true, cond-false, eqb-false, not-true}
use Rattle.std.proofs.lemmas.Slice.{between_to_end}
use Rattle.time_text.specs.Digits.{has_shape}
use Rattle.text_forms.specs.Digits.{is_digit, decimal_value}
use Rattle.time_text.specs.TimeText.{is_fraction, millis_in, civil_time}
use Rattle.time_text.proofs.DigitFacts.{has_shape-length, fraction_digits, fraction_length}

-- what a fraction of a second is
pub record IsFraction (text : List ℕ) : Type 0 where
  pub more : length text ≢ 1
  pub few : length text ≤ 4
  pub digits : list_all is_digit (drop 1 text) ≡ true

pub IsFraction-from_test : (text : List ℕ) → is_fraction text ≡ true → IsFraction text
unfolding is_fraction
IsFraction-from_test text test =
    let both = and_parts (not (eqb (length text) 1)) (has_shape (take (length text) (codes ".000")) text) test in
    record {
      more = eqb-false _ _ (not-true _ both.0);
      few = fraction_length text both.1;
      digits = fraction_digits text both.1;
    }

pub is_fraction-long : (text : List ℕ) → 4 < length text → false ≡ is_fraction text
is_fraction-long text long =
    sym (false_from_ne_true _ (λ e. let is = IsFraction-from_test text e in omega arith))

pub tail_is : (text : List ℕ) → take (length text - 1) (drop 1 text) ≡ drop 1 text
tail_is text = between_to_end text 1 (length text) (omega arith)

pub millis_in-product : (text : List ℕ) (digits unit : ℕ) → 1 ≤ length text → digits ≡ decimal_value (drop 1 text) → unit ≡ 10 ^ (3 - (length text - 1)) → digits * unit ≡ millis_in text
unfolding millis_in
millis_in-product text digits unit some d u =
    let places : 3 - (length text - 1) ≡ 4 - length text = omega arith in
    rw (d, u, places) refl

pub below_second : (n k : ℕ) → n < 10 ^ k → 1 ≤ k → k ≤ 3 → n * 10 ^ (3 - k) < 1_000
below_second n zero less some few = absurd (omega arith)
below_second n (suc zero) less some few = omega (arith, less)
below_second n (suc (suc zero)) less some few = omega (arith, less)
below_second n (suc (suc (suc zero))) less some few = omega (arith, less)
below_second n (suc (suc (suc (suc k)))) less some few = absurd (omega arith)

pub below_thousand : (n k : ℕ) → n < 10 ^ k → k ≤ 3 → n < 1_000
below_thousand n zero less few = omega (arith, less)
below_thousand n (suc zero) less few = omega (arith, less)
below_thousand n (suc (suc zero)) less few = omega (arith, less)
below_thousand n (suc (suc (suc zero))) less few = omega (arith, less)
below_thousand n (suc (suc (suc (suc k)))) less few = absurd (omega arith)

-- no civil text is shorter than 19 octets
pub civil_time-short : (text : List ℕ) → length text < 19 → ◌≡◌ None (civil_time text)
unfolding civil_time
civil_time-short text short =
    let none : has_shape (codes "0000-00-00T00:00:00") (take 19 text) ≡ false = false_from_ne_true _ (λ e. omega (arith, has_shape-length _ (take 19 text) e, length-take 19 text)) in
    sym (cond-false _ _ _ (and_left _ (is_fraction (drop 19 text)) none))
