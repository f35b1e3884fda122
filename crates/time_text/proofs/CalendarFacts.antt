-- The calendar of the definitions is jiff's.
use Rattle.std.proofs.Common.{◌≡◌, ℕ, zero, suc, ◌+◌, ◌-◌, ◌<◌, ◌≤◌, true, leb, refl, sym, ap, ◌∙◌, arith, ℤ, pos, negsuc, ◌≤ℤ◌, unsigned_abs}
use Rattle.std.proofs.lemmas.Bool.{and_parts, leb-true}
use Rattle.std.proofs.lemmas.Bool.Decides.{nat_tests}
use Rattle.std.proofs.lemmas.Int.{by_lt_z}
use Rattle.jiff_core.specs.Calendar as jiff
use Rattle.jiff_core.specs.Date.{epoch_day, ordinal, IsYmd}
use Rattle.jiff_core.specs.declared.civil.date.Date.{Date}
use Rattle.jiff_core.proofs.SignedLemmas.{signed_arith}
use Rattle.jiff_core.proofs.CalendarLemmas.{day_count-epoch, days_from_civil-day_count, day_count-day_of_year, day_count-next_year, day_count-lt_year}
use Rattle.time_text.specs.Calendar.{is_date, days_in_month, days_of_years, days_of_months, day_number}

days_of_months-jiff : (year months : ℕ) → jiff.days_of_months (pos year) months ≡ days_of_months year months
unfolding days_of_months jiff.days_of_months
days_of_months-jiff year zero = refl
days_of_months-jiff year (suc months) =
    ap (λ n. n + days_in_month year (suc months)) (days_of_months-jiff year months)

days_of_years-jiff : (years : ℕ) → jiff.day_count (pos (1970 + years)) 1 1 ≡ days_of_years years + 4_371_953
unfolding days_of_years
days_of_years-jiff zero = omega (arith, day_count-epoch)
days_of_years-jiff (suc years) =
    let next = day_count-next_year (pos (1970 + years)) (pos (1970 + suc years)) (omega (arith, signed_arith)) (omega (arith, signed_arith)) in
    omega (arith, next, days_of_years-jiff years)

-- a date's year and its place in it give its number
pub day_number-ordinal : (year month day : ℕ) → 1 ≤ day → day_number year month day + 1 ≡ days_of_years (year - 1970) + jiff.day_of_year (pos year) month day
unfolding day_number
day_number-ordinal year month day first = omega (arith, days_of_months-jiff year (month - 1))

pub day_number-jiff : (year month day : ℕ) → 1970 ≤ year → 1 ≤ day → jiff.days_from_civil (pos year) month day ≡ pos (day_number year month day)
day_number-jiff year month day from first =
    let same : 1970 + (year - 1970) ≡ year = omega arith in
    let start = rw same at (days_of_years-jiff (year - 1970)) in
    omega (arith, signed_arith, start, days_from_civil-day_count (pos year) month day, day_count-day_of_year (pos year) month day first, day_number-ordinal year month day first)

pub is_date-from_jiff : (year month day : ℕ) → 1970 ≤ year → jiff.IsDate (pos year) (pos month) (pos day) → is_date year month day ≡ true
is_date-from_jiff year month day from date =
    let low : 1 ≤ month = omega (arith, signed_arith, date.1.0) in
    let high : month ≤ 12 = omega (arith, signed_arith, date.1.1) in
    let first : 1 ≤ day = omega (arith, signed_arith, date.2.0) in
    let last : day ≤ days_in_month year month = omega (arith, signed_arith, date.2.1) in
    grind (arith, nat_tests)

pub record IsCalendarDate (year month day : ℕ) : Type 0 where
  pub from_1970 : 1970 ≤ year
  pub from_january : 1 ≤ month
  pub to_december : month ≤ 12
  pub first : 1 ≤ day
  pub last : day ≤ days_in_month year month

pub IsCalendarDate-from_test : (year month day : ℕ) → is_date year month day ≡ true → IsCalendarDate year month day
IsCalendarDate-from_test year month day test =
    let d = and_parts _ (leb day (days_in_month year month)) test in
    let c = and_parts _ (leb 1 day) d.0 in
    let b = and_parts _ (leb month 12) c.0 in
    let a = and_parts (leb 1970 year) (leb 1 month) b.0 in
    record {
      from_1970 = leb-true _ _ a.0;
      from_january = leb-true _ _ a.1;
      to_december = leb-true _ _ b.1;
      first = leb-true _ _ c.1;
      last = leb-true _ _ d.1;
    }

pub IsDate-jiff : (year month day : ℕ) → year < 10_000 → is_date year month day ≡ true → jiff.IsDate (pos year) (pos month) (pos day)
IsDate-jiff year month day four test =
    let date = IsCalendarDate-from_test year month day test in
    ((omega (arith, signed_arith), omega (arith, signed_arith)), (omega (arith, signed_arith), omega (arith, signed_arith)), (omega (arith, signed_arith), omega (arith, signed_arith)))

-- a date whose day isn't before 1970-01-01 is in 1970 or later
pub from_1970 : (year : ℤ) (month day : ℕ) → jiff.IsCivilDate year month day → pos 0 ≤ℤ jiff.days_from_civil year month day → pos 1970 ≤ℤ year
from_1970 year month day date h =
    by_lt_z year (pos 1970)
    (λ lt. absurd (omega (arith, signed_arith, day_count-lt_year year month day (pos 1970) 1 1 date (omega arith) lt, days_from_civil-day_count year month day, day_count-epoch)))
    (λ le. le)

-- jiff's day of jiff's date, where it gave one
pub epoch_day-found : (year month day : ℕ) (y m d : ℤ) (date : Date) → 1970 ≤ year → y ≡ pos year → m ≡ pos month → d ≡ pos day → jiff.IsDate y m d → IsYmd y m d date → (is_date year month day ≡ true) × (epoch_day date ≡ pos (day_number year month day))
epoch_day-found year month day y m d date from yp mp dp valid parts =
    let real = is_date-from_jiff year month day from (rw (yp, mp, dp) at valid) in
    let month_is : date.month ≡ month = omega (arith, signed_arith, parts.1) in
    let day_is : date.day ≡ day = omega (arith, signed_arith, parts.2) in
    let year_is : date.year ≡ pos year = parts.0 ∙ yp in
    let first : 1 ≤ day = (IsCalendarDate-from_test year month day real).first in
    (real, rw (year_is, month_is, day_is) (day_number-jiff year month day from first))

-- what jiff's date of a day is in the calendar of the definitions
pub record IsDateOf (date : Date) (day : ℕ) : Type 0 where
  pub year : unsigned_abs date.year < 10_000
  pub real : is_date (unsigned_abs date.year) date.month date.day ≡ true
  pub number : day_number (unsigned_abs date.year) date.month date.day ≡ day
  pub ordinal : days_of_years (unsigned_abs date.year - 1970) + ordinal date ≡ day + 1

date_of-parts : (year : ℤ) (month day number : ℕ) → jiff.IsCivilDate year month day → jiff.days_from_civil year month day ≡ pos number → (unsigned_abs year < 10_000) × (is_date (unsigned_abs year) month day ≡ true) × (day_number (unsigned_abs year) month day ≡ number) × (days_of_years (unsigned_abs year - 1970) + jiff.day_of_year year month day ≡ number + 1)
date_of-parts (negsuc y) month day number date e =
    absurd (omega (arith, signed_arith, from_1970 (negsuc y) month day date (rw e (omega (arith, signed_arith)))))
date_of-parts (pos y) month day number date e =
    let from : 1970 ≤ y = omega (arith, signed_arith, from_1970 (pos y) month day date (rw e (omega (arith, signed_arith)))) in
    let first : 1 ≤ day = date.2.0 in
    let same : pos (day_number y month day) ≡ pos number = sym (day_number-jiff y month day from first) ∙ e in
    let same_number : day_number y month day ≡ number = ap unsigned_abs same in
    let four : y < 10_000 = omega (arith, signed_arith, date.0.1) in
    let signed : jiff.IsDate (pos y) (pos month) (pos day) = ((omega (arith, signed_arith), omega (arith, signed_arith)), (omega (arith, signed_arith), omega (arith, signed_arith)), (omega (arith, signed_arith), omega (arith, signed_arith))) in
    (four, is_date-from_jiff y month day from signed, same_number, omega (arith, same_number, day_number-ordinal y month day first))

pub IsDateOf-epoch_day : (date : Date) (day : ℕ) → epoch_day date ≡ pos day → IsDateOf date day
IsDateOf-epoch_day date day e =
    let parts = date_of-parts date.year date.month date.day day (date.year_in, date.month_in, date.day_in) e in
    record { year = parts.0; real = parts.1; number = parts.2; ordinal = parts.3 }
