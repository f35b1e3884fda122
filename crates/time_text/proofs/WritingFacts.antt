-- What is written is read back.
use Rattle.std.proofs.Common.{◌≡◌, ℕ, ◌+◌, ◌%◌, ◌<◌, true, List, ◌∷◌, ◌++◌, length, take, drop, Some, None, pos, refl, inl, inr, arith, length-drop}
use Rattle.std.specs.Prelude.{codes}
use Rattle.std.proofs.lemmas.Bool.{cases_Bool, and_from, and_left, and_right, lt-leb, ne_eqb, cond-false}
use Rattle.time_text.specs.Digits.{has_shape, two_digits_of, three_digits_of, four_digits_of}
use Rattle.time_text.specs.Civil.{is_real, millis_of}
use Rattle.time_text.specs.TimeText.{number_of, is_negative, signed_number_of, without_z, is_fraction, millis_in, has_civil_shape, civil_of, civil_time, time_of}
use Rattle.time_text.specs.Spelling.{spelled}
use Rattle.time_text.specs.declared.civil.Civil.{Civil}
use Rattle.time_text.proofs.DigitFacts.{decimal_value-two_digits_of, decimal_value-three_digits_of, decimal_value-four_digits_of, has_shape-two_digits_of, has_shape-three_digits_of, has_shape-four_digits_of, has_shape-append}

-- every number has as many digits as its place
pub record IsWritable (c : Civil) : Type 0 where
  pub year : c.year < 10_000
  pub month : c.month < 100
  pub day : c.day < 100
  pub hour : c.hour < 100
  pub minute : c.minute < 100
  pub second : c.second < 100
  pub milli : c.milli < 1_000

-- the parts before the fraction, each with what stands before it
abbrev to_month : Civil → List ℕ
to_month c = four_digits_of c.year ++ (45 ∷ two_digits_of c.month)

abbrev to_day : Civil → List ℕ
to_day c = to_month c ++ (45 ∷ two_digits_of c.day)

abbrev to_hour : Civil → List ℕ
to_hour c = to_day c ++ (84 ∷ two_digits_of c.hour)

abbrev to_minute : Civil → List ℕ
to_minute c = to_hour c ++ (58 ∷ two_digits_of c.minute)

abbrev to_second : Civil → List ℕ
to_second c = to_minute c ++ (58 ∷ two_digits_of c.second)

has_shape-to_second : (c : Civil) → IsWritable c → has_shape (codes "0000-00-00T00:00:00") (to_second c) ≡ true
unfolding has_shape
has_shape-to_second c w =
    has_shape-append (codes "0000-00-00T00:00") (codes ":00") (to_minute c) (58 ∷ two_digits_of c.second)
    (has_shape-append (codes "0000-00-00T00") (codes ":00") (to_hour c) (58 ∷ two_digits_of c.minute)
    (has_shape-append (codes "0000-00-00") (codes "T00") (to_day c) (84 ∷ two_digits_of c.hour)
    (has_shape-append (codes "0000-00") (codes "-00") (to_month c) (45 ∷ two_digits_of c.day)
    (has_shape-append (codes "0000") (codes "-00") (four_digits_of c.year) (45 ∷ two_digits_of c.month)
    (has_shape-four_digits_of c.year w.year)
    (has_shape-two_digits_of c.month w.month))
    (has_shape-two_digits_of c.day w.day))
    (has_shape-two_digits_of c.hour w.hour))
    (has_shape-two_digits_of c.minute w.minute))
    (has_shape-two_digits_of c.second w.second)

has_shape-fraction : (n : ℕ) → n < 1_000 → has_shape (codes ".000") (46 ∷ three_digits_of n) ≡ true
unfolding has_shape
has_shape-fraction n less = has_shape-three_digits_of n less

pub has_shape-spelled : (c : Civil) → IsWritable c → has_shape (codes "0000-00-00T00:00:00.000") (spelled c) ≡ true
has_shape-spelled c w =
    has_shape-append (codes "0000-00-00T00:00:00") (codes ".000") (to_second c) (46 ∷ three_digits_of c.milli) (has_shape-to_second c w) (has_shape-fraction c.milli w.milli)

number_of-long : (text : List ℕ) → 15 < length text → number_of text ≡ None
unfolding number_of
number_of-long text long =
    cond-false _ _ _ (and_left _ _ (and_right _ _ (lt-leb (length text) 15 long)))

signed_number_of-long : (text : List ℕ) → 16 < length text → signed_number_of text ≡ None
unfolding signed_number_of
signed_number_of-long text long =
    elim (cases_Bool (is_negative text)) [
      | inl minus ↦
          let none = number_of-long (drop 1 text) (omega (arith, length-drop 1 text)) in
          rw (minus, none) refl
      | inr plain ↦
          let none = number_of-long text (omega arith) in
          rw (plain, none) refl
    ]

without_z-spelled : (c : Civil) → without_z (spelled c) ≡ spelled c
unfolding without_z
without_z-spelled c = cond-false _ _ _ (ne_eqb (48 + c.milli % 100 % 10) 90 (λ e. absurd (omega (arith, e))))

millis_in-spelled : (n : ℕ) → millis_in (46 ∷ three_digits_of n) ≡ n
unfolding millis_in
millis_in-spelled n = omega (arith, decimal_value-three_digits_of n)

civil_of-spelled : (c : Civil) → civil_of (take 19 (spelled c)) (drop 19 (spelled c)) ≡ c
unfolding civil_of
civil_of-spelled c =
    rw (decimal_value-four_digits_of c.year, decimal_value-two_digits_of c.month, decimal_value-two_digits_of c.day, decimal_value-two_digits_of c.hour, decimal_value-two_digits_of c.minute, decimal_value-two_digits_of c.second, millis_in-spelled c.milli) refl

has_civil_shape-spelled : (c : Civil) → IsWritable c → has_civil_shape (take 19 (spelled c)) (drop 19 (spelled c)) ≡ true
unfolding is_fraction
has_civil_shape-spelled c w = and_from _ _ (has_shape-to_second c w) (has_shape-fraction c.milli w.milli)

pub time_of-spelled : (c : Civil) → IsWritable c → is_real c ≡ true → time_of (spelled c) ≡ Some (pos (millis_of c))
unfolding time_of civil_time
time_of-spelled c w real =
    rw (signed_number_of-long (spelled c) (omega arith), without_z-spelled c, has_civil_shape-spelled c w, civil_of-spelled c, real) refl
