-- Days since 1970-01-01, and their names.
use Rattle.std.specs.Prelude.{◌≡◌, ℕ, ◌+◌, ◌-◌, ◌≤◌, List, codes, slice_range, true, ℤ, pos}
use Rattle.std.specs.Int.{int_div_euclid}
use Rattle.time_text.specs.Calendar.{days_of_years, days_in_year}
use Rattle.time_text.specs.Digits.{has_shape}
use Rattle.text_forms.specs.Digits.{decimal_value}

-- the day on which a moment lies: its milliseconds by those of a day, rounded down
unfoldable pub day_of : ℤ → ℤ
day_of time = int_div_euclid time (pos 86_400_000)

-- YYYY/DOY: a year from 1970 on, and the day's place in that year from 1
pub record IsDayName (text : List ℕ) (day : ℕ) : Type 0 where
  pub shape : has_shape (codes "0000/000") text ≡ true
  pub from_1970 : 1970 ≤ decimal_value (slice_range text 0 4)
  pub first : 1 ≤ decimal_value (slice_range text 5 8)
  pub last : decimal_value (slice_range text 5 8) ≤ days_in_year (decimal_value (slice_range text 0 4))
  pub counted : days_of_years (decimal_value (slice_range text 0 4) - 1970) + decimal_value (slice_range text 5 8) ≡ day + 1
