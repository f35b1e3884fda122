-- The name of a day.
use Rattle.std.proofs.Common.{◌≡◌, ℕ, ◌+◌, ◌-◌, ◌<◌, ◌≤◌, true, ◌∷◌, ap, subst, arith, ℤ, pos, negsuc, ◌+ℤ◌, ◌*ℤ◌, ◌≤ℤ◌, ◌<ℤ◌, unsigned_abs}
use Rattle.std.specs.Prelude.{codes}
use Rattle.std.proofs.lemmas.Int.{ints}
use Rattle.time_text.specs.Calendar.{is_date, day_number, days_of_years, days_in_year, date_of}
use Rattle.time_text.specs.Digits.{has_shape, three_digits_of, four_digits_of}
use Rattle.time_text.specs.Day.{day_of, IsDayName}
use Rattle.time_text.specs.Laws.{DayNameIsOfDay, DayIs, DaysRise}
use Rattle.time_text.specs.Spelling.{named, day_name_of}
use Rattle.time_text.proofs.CalendarFacts.{IsCalendarDate-from_test}
use Rattle.time_text.proofs.DateFacts.{date, date_of-number, date_of-on, year-four_digits, whole_years, within_year, days_in_year-most}
use Rattle.time_text.proofs.DigitFacts.{decimal_value-three_digits_of, decimal_value-four_digits_of, has_shape-three_digits_of, has_shape-four_digits_of, has_shape-append}

has_shape-named : (year place : ℕ) → year < 10_000 → place < 1_000 → has_shape (codes "0000/000") (named year place) ≡ true
unfolding has_shape
has_shape-named year place y p =
    has_shape-append (codes "0000") (codes "/000") (four_digits_of year) (47 ∷ three_digits_of place) (has_shape-four_digits_of year y) (has_shape-three_digits_of place p)

IsDayName-named : (year place day : ℕ) → year < 10_000 → place < 1_000 → 1970 ≤ year → 1 ≤ place → place ≤ days_in_year year → days_of_years (year - 1970) + place ≡ day + 1 → IsDayName (named year place) day
IsDayName-named year place day y p from first last counted = record {
  shape = has_shape-named year place y p;
  from_1970 = rw (decimal_value-four_digits_of year) from;
  first = rw (decimal_value-three_digits_of place) first;
  last = rw (decimal_value-three_digits_of place, decimal_value-four_digits_of year) last;
  counted = rw (decimal_value-four_digits_of year, decimal_value-three_digits_of place) counted;
}

-- the place of a day in its year, where the year's date of that number is known
pub day_name_of-ordinal : (day : ℤ) (year month day_of_month place : ℕ) → is_date year month day_of_month ≡ true → day_number year month day_of_month ≡ unsigned_abs day → days_of_years (year - 1970) + place ≡ unsigned_abs day + 1 → named year place ≡ day_name_of day
unfolding day_name_of
day_name_of-ordinal day year month day_of_month place real number counted =
    let on : date_of (unsigned_abs day) ≡ date year month day_of_month = date_of-number year month day_of_month _ real number in
    let same : place ≡ unsigned_abs day - days_of_years (year - 1970) + 1 = omega (arith, counted, number, whole_years year month day_of_month) in
    rw on (ap (λ (n : ℕ). named year n) same)

pub day_name_is : DayNameIsOfDay
unfolding day_name_of
day_name_is day from last =
    let n = unsigned_abs day in
    let on = date_of-on n in
    let d = date_of n in
    let is = IsCalendarDate-from_test d.year d.month d.day on.real in
    let four = year-four_digits n (omega (arith, ints, from, last)) in
    let whole = whole_years d.year d.month d.day in
    let within = within_year d.year d.month d.day on.real in
    let some = days_in_year-most d.year in
    IsDayName-named d.year (n - days_of_years (d.year - 1970) + 1) n four (omega (arith, within, some, on.number)) is.from_1970 (omega arith) (omega (arith, within, on.number)) (omega (arith, whole, on.number))

-- ---- the day of a moment

-- a moment isn't before the start of its day, and is before the next day's
pub on_its_day : (t : ℤ) → ((pos 86_400_000 *ℤ day_of t) ≤ℤ t) × (t <ℤ (pos 86_400_000 *ℤ (day_of t +ℤ pos 1)))
unfolding day_of
on_its_day (pos n) = (omega (arith, ints), omega (arith, ints))
on_its_day (negsuc n) = (omega (arith, ints), omega (arith, ints))

pub day_is : DayIs
day_is t d = (
  λ same. subst (λ (e : ℤ). ((pos 86_400_000 *ℤ e) ≤ℤ t) × (t <ℤ (pos 86_400_000 *ℤ (e +ℤ pos 1)))) same (on_its_day t),
  λ within. (let own = on_its_day t in omega (arith, ints)),
)

pub days_rise : DaysRise
days_rise t u le = let first = on_its_day t in let second = on_its_day u in omega (arith, ints)
