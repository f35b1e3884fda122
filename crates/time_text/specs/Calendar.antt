-- The Gregorian calendar from the year 1970 on, by counting the days of its years and months.
use Rattle.std.specs.Prelude.{ℕ, zero, suc, ◌+◌, ◌-◌, ◌%◌, ◌==◌, ◌&&◌, ◌||◌, not, Bool, nat_le, nat_lt, if◌then◌else◌}

-- every fourth year, but of the centuries only every fourth
abbrev pub is_leap : ℕ → Bool
is_leap year = (year % 4 == 0) && (not (year % 100 == 0) || (year % 400 == 0))

-- how many days a year has
abbrev pub days_in_year : ℕ → ℕ
days_in_year year = if is_leap year then 366 else 365

-- thirty days have September, April, June and November
abbrev pub days_in_month : ℕ → ℕ → ℕ
days_in_month year month =
    if month == 2 then (if is_leap year then 29 else 28)
    else (if (month == 4) || (month == 6) || (month == 9) || (month == 11) then 30 else 31)

-- the days of so many years from 1970 on
unfoldable pub days_of_years : ℕ → ℕ
days_of_years zero = 0
days_of_years (suc years) = days_of_years years + days_in_year (1970 + years)

-- the days of so many months from the year's January on
unfoldable pub days_of_months : ℕ → ℕ → ℕ
days_of_months year zero = 0
days_of_months year (suc months) = days_of_months year months + days_in_month year (suc months)

-- the calendar has this day, in 1970 or later
abbrev pub is_date : ℕ → ℕ → ℕ → Bool
is_date year month day =
    nat_le 1970 year && nat_le 1 month && nat_le month 12 && nat_le 1 day && nat_le day (days_in_month year month)

-- the days from 1970-01-01 to a date
unfoldable pub day_number : ℕ → ℕ → ℕ → ℕ
day_number year month day =
    days_of_years (year - 1970) + days_of_months year (month - 1) + (day - 1)

-- a year, a month from 1 and a day of the month from 1
pub record CivilDate : Type 0 where
  pub year : ℕ
  pub month : ℕ
  pub day : ℕ

-- the date of the day after: the month's next day, or the first of the year's next month, or the first of the next year
abbrev pub next_date : CivilDate → CivilDate
next_date d =
    if nat_lt d.day (days_in_month d.year d.month) then record { year = d.year; month = d.month; day = d.day + 1 }
    else (if nat_lt d.month 12 then record { year = d.year; month = d.month + 1; day = 1 }
    else record { year = d.year + 1; month = 1; day = 1 })

-- the date of a day, counted from 1970-01-01
unfoldable pub date_of : ℕ → CivilDate
date_of zero = record { year = 1970; month = 1; day = 1 }
date_of (suc day) = next_date (date_of day)
