-- The texts of moments and of days, octet by octet.
use Rattle.std.specs.Prelude.{ℕ, ◌+◌, ◌-◌, ◌/◌, ◌%◌, List, ◌∷◌, ◌++◌, ℤ, unsigned_abs}
use Rattle.time_text.specs.Calendar.{date_of, days_of_years}
use Rattle.time_text.specs.Digits.{two_digits_of, three_digits_of, four_digits_of}
use Rattle.time_text.specs.declared.civil.Civil.{Civil}

-- YYYY-MM-DDTHH:MM:SS.mmm
abbrev pub spelled : Civil → List ℕ
spelled c =
    four_digits_of c.year ++ (45 ∷ two_digits_of c.month) ++ (45 ∷ two_digits_of c.day) ++ (84 ∷ two_digits_of c.hour) ++ (58 ∷ two_digits_of c.minute) ++ (58 ∷ two_digits_of c.second) ++ (46 ∷ three_digits_of c.milli)

-- YYYY/DOY
abbrev pub named : ℕ → ℕ → List ℕ
named year place = four_digits_of year ++ (47 ∷ three_digits_of place)

-- the date and time of day of a moment, in milliseconds since 1970-01-01T00:00:00, every day having 86,400 seconds
unfoldable pub civil_at : ℕ → Civil
civil_at time =
    let date = date_of (time / 86_400_000) in
    record {
      year = date.year;
      month = date.month;
      day = date.day;
      hour = time / 3_600_000 % 24;
      minute = time / 60_000 % 60;
      second = time / 1_000 % 60;
      milli = time % 1_000;
    }

-- the 23 octets of a moment in the years 1970 to 9999, in milliseconds since 1970
unfoldable pub time_text_of : ℤ → List ℕ
time_text_of time = spelled (civil_at (unsigned_abs time))

-- the 8 octets of a day in the years 1970 to 9999, counted from 1970-01-01: its year, and its place in that year from 001
unfoldable pub day_name_of : ℤ → List ℕ
day_name_of day =
    let year = (date_of (unsigned_abs day)).year in
    named year (unsigned_abs day - days_of_years (year - 1970) + 1)
