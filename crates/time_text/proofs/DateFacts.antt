-- The date that counting day by day gives is the calendar's.
use Rattle.std.proofs.Common.{◌≡◌, ℕ, zero, suc, ◌+◌, ◌-◌, ◌*◌, ◌%◌, ◌<◌, ◌≤◌, Bool, true, false, cond, inl, inr, refl, sym, ap, ◌∙◌, arith, add-one}
use Rattle.std.proofs.lemmas.Bool.{cases_Bool, cond-true, cond-false, lt-ltb, le-ltb, le-leb, and_from, cases_lt}
use Rattle.time_text.specs.Calendar.{is_leap, days_in_year, days_in_month, days_of_years, days_of_months, is_date, day_number, CivilDate, next_date, date_of}
use Rattle.time_text.proofs.CalendarFacts.{IsCalendarDate-from_test}

abbrev pub date : ℕ → ℕ → ℕ → CivilDate
date year month day = record { year = year; month = month; day = day }

-- ---- the day after

pub next_day : (year month day : ℕ) → day < days_in_month year month → next_date (date year month day) ≡ date year month (day + 1)
next_day year month day less = cond-true _ _ _ (lt-ltb _ _ less)

pub next_month : (year month day : ℕ) → days_in_month year month ≤ day → month < 12 → next_date (date year month day) ≡ date year (month + 1) 1
next_month year month day last less = cond-false _ _ _ (le-ltb _ _ last) ∙ cond-true _ _ _ (lt-ltb _ _ less)

pub next_year : (year month day : ℕ) → days_in_month year month ≤ day → 12 ≤ month → next_date (date year month day) ≡ date (year + 1) 1 1
next_year year month day last december = cond-false _ _ _ (le-ltb _ _ last) ∙ cond-false _ _ _ (le-ltb _ _ december)

pub date_of-next : (n k : ℕ) (d : CivilDate) → k ≡ n + 1 → date_of n ≡ d → date_of k ≡ next_date d
unfolding date_of
date_of-next n k d e is = rw (e, add-one) (ap next_date is)

month_length : (february leap short : Bool) → (1 ≤ cond february (cond leap 29 28) (cond short 30 31)) × (cond february (cond leap 29 28) (cond short 30 31) ≤ 31)
month_length true true short = (omega arith, omega arith)
month_length true false short = (omega arith, omega arith)
month_length false leap true = (omega arith, omega arith)
month_length false leap false = (omega arith, omega arith)

pub days_in_month-some : (year month : ℕ) → 1 ≤ days_in_month year month
days_in_month-some year month = (month_length _ (is_leap year) _).0

pub days_in_month-most : (year month : ℕ) → days_in_month year month ≤ 31
days_in_month-most year month = (month_length _ (is_leap year) _).1

-- a year's days are those of its months
pub days_of_year : (year : ℕ) → days_of_months year 11 + 31 ≡ days_in_year year
unfolding days_of_months
days_of_year year = elim (cases_Bool (is_leap year)) [
  | inl leap ↦ rw leap refl
  | inr common ↦ rw common refl
]

-- ---- the date of a day's number

-- the days of a month
days_on : (year month n : ℕ) → date_of n ≡ date year month 1 → (j : ℕ) → j < days_in_month year month → date_of (n + j) ≡ date year month (j + 1)
days_on year month n first zero less = let same : n + 0 ≡ n = omega arith in rw same first
days_on year month n first (suc j) less =
    let before = days_on year month n first j (omega arith) in
    date_of-next (n + j) (n + suc j) (date year month (j + 1)) (omega arith) before ∙ next_day year month (j + 1) (omega arith) ∙ ap (λ (d : ℕ). date year month (d + 1)) (add-one j)

-- the months of a year
months_on : (year n : ℕ) → date_of n ≡ date year 1 1 → (k : ℕ) → k < 12 → date_of (n + days_of_months year k) ≡ date year (suc k) 1
unfolding days_of_months
months_on year n first zero less = let same : n + 0 ≡ n = omega arith in rw same first
months_on year n first (suc k) less =
    let start = months_on year n first k (omega arith) in
    let some = days_in_month-some year (suc k) in
    let last = days_on year (suc k) (n + days_of_months year k) start (days_in_month year (suc k) - 1) (omega arith) in
    date_of-next _ (n + days_of_months year (suc k)) _ (omega arith) last ∙ next_month year (suc k) _ (omega arith) (omega arith) ∙ ap (λ (m : ℕ). date year m 1) (add-one (suc k))

-- the years from 1970 on
years_on : (k : ℕ) → date_of (days_of_years k) ≡ date (1970 + k) 1 1
unfolding days_of_years date_of
years_on zero = refl
years_on (suc k) =
    let start = months_on (1970 + k) (days_of_years k) (years_on k) 11 (omega arith) in
    let last = days_on (1970 + k) 12 (days_of_years k + days_of_months (1970 + k) 11) start 30 (omega arith) in
    let year : 1970 + k + 1 ≡ 1970 + suc k = omega arith in
    date_of-next (days_of_years k + days_of_months (1970 + k) 11 + 30) (days_of_years (suc k)) (date (1970 + k) 12 31) (omega (arith, days_of_year (1970 + k))) last ∙ next_year (1970 + k) 12 31 (omega arith) (omega arith) ∙ ap (λ (y : ℕ). date y 1 1) year

pub date_of-number : (year month day n : ℕ) → is_date year month day ≡ true → day_number year month day ≡ n → date_of n ≡ date year month day
unfolding day_number
date_of-number year month day n real number =
    let is = IsCalendarDate-from_test year month day real in
    let the_year : 1970 + (year - 1970) ≡ year = omega (arith, is.from_1970) in
    let the_month : suc (month - 1) ≡ month = omega (arith, is.from_january) in
    let the_day : (day - 1) + 1 ≡ day = omega (arith, is.first) in
    let in_year : date_of (days_of_years (year - 1970)) ≡ date year 1 1 = rw the_year at (years_on (year - 1970)) in
    let in_month : date_of (days_of_years (year - 1970) + days_of_months year (month - 1)) ≡ date year month 1 =
    rw the_month at (months_on year _ in_year (month - 1) (omega (arith, is.to_december))) in
    let found = days_on year month _ in_month (day - 1) (omega (arith, is.last, is.first)) in
    rw (sym number) (rw the_day at found)

-- ---- each day has a real date of that number

-- a date of the calendar, and its day's number
pub record IsOn (d : CivilDate) (n : ℕ) : Type 0 where
  pub real : is_date d.year d.month d.day ≡ true
  pub number : day_number d.year d.month d.day ≡ n

pub is_date-from : (year month day : ℕ) → 1970 ≤ year → 1 ≤ month → month ≤ 12 → 1 ≤ day → day ≤ days_in_month year month → is_date year month day ≡ true
is_date-from year month day from low high first last =
    and_from _ _ (and_from _ _ (and_from _ _ (and_from _ _ (le-leb _ _ from) (le-leb _ _ low)) (le-leb _ _ high)) (le-leb _ _ first)) (le-leb _ _ last)

months_more : (year month : ℕ) → 1 ≤ month → days_of_months year month ≡ days_of_months year (month - 1) + days_in_month year month
unfolding days_of_months
months_more year zero some = absurd (omega (arith, some))
months_more year (suc m) some = let same : suc m - 1 ≡ m = omega arith in rw same refl

years_more : (year : ℕ) → 1970 ≤ year → days_of_years (year + 1 - 1970) ≡ days_of_years (year - 1970) + days_in_year year
unfolding days_of_years
years_more year from =
    let next : year + 1 - 1970 ≡ suc (year - 1970) = omega (arith, from) in
    let same : 1970 + (year - 1970) ≡ year = omega (arith, from) in
    rw next (rw same refl)

no_months : (year : ℕ) → days_of_months year 0 ≡ 0
unfolding days_of_months
no_months year = refl

first_day : day_number 1970 1 1 ≡ 0
unfolding day_number days_of_years days_of_months
first_day = refl

next-on : (d : CivilDate) (n : ℕ) → IsOn d n → IsOn (next_date d) (suc n)
unfolding day_number
next-on d n on =
    let is = IsCalendarDate-from_test d.year d.month d.day on.real in
    elim (cases_lt d.day (days_in_month d.year d.month)) [
      | inl less ↦ rw (next_day d.year d.month d.day less) (record {
        real = is_date-from d.year d.month (d.day + 1) is.from_1970 is.from_january is.to_december (omega arith) (omega (arith, less));
        number = omega (arith, on.number, is.first);
      })
      | inr last ↦ elim (cases_lt d.month 12) [
        | inl less ↦
            let same : d.month + 1 - 1 ≡ d.month = omega arith in
            rw (next_month d.year d.month d.day last less) (record {
              real = is_date-from d.year (d.month + 1) 1 is.from_1970 (omega arith) (omega (arith, less)) (omega arith) (days_in_month-some d.year (d.month + 1));
              number = rw same (omega (arith, on.number, is.first, is.last, last, months_more d.year d.month is.from_january));
            })
        | inr december ↦
            let twelve : d.month ≡ 12 = omega (arith, december, is.to_december) in
            rw (next_year d.year d.month d.day last december) (record {
              real = is_date-from (d.year + 1) 1 1 (omega (arith, is.from_1970)) (omega arith) (omega arith) (omega arith) (days_in_month-some (d.year + 1) 1);
              number = omega (arith, rw twelve at on.number, is.first, rw twelve at is.last, rw twelve at last, years_more d.year is.from_1970, days_of_year d.year, no_months (d.year + 1));
            })
      ]
    ]

pub date_of-on : (n : ℕ) → IsOn (date_of n) n
unfolding date_of
date_of-on zero = record { real = refl; number = first_day }
date_of-on (suc n) = next-on (date_of n) n (date_of-on n)

-- ---- the years of the days that have four digits

rising_years : (k n : ℕ) → days_of_years n ≤ days_of_years (k + n)
unfolding days_of_years
rising_years zero n = let same : 0 + n ≡ n = omega arith in rw same (omega arith)
rising_years (suc k) n = let same : suc k + n ≡ suc (k + n) = omega arith in rw same (omega (arith, rising_years k n))

same_leap : (year : ℕ) → is_leap (year + 400) ≡ is_leap year
same_leap year =
    let four : (year + 400) % 4 ≡ year % 4 = omega arith in
    let hundred : (year + 400) % 100 ≡ year % 100 = omega arith in
    let all : (year + 400) % 400 ≡ year % 400 = omega arith in
    rw (four, hundred, all) refl

days_of_400 : (n : ℕ) → days_of_years (n + 400) ≡ days_of_years n + 146_097
unfolding days_of_years
days_of_400 zero = refl
days_of_400 (suc n) =
    let next : suc n + 400 ≡ suc (n + 400) = omega arith in
    let year : 1970 + (n + 400) ≡ (1970 + n) + 400 = omega arith in
    rw next (rw year (rw (same_leap (1970 + n)) (omega (arith, days_of_400 n))))

days_of_400s : (k n : ℕ) → days_of_years (n + 400 * k) ≡ days_of_years n + 146_097 * k
days_of_400s zero n = let same : n + 400 * 0 ≡ n = omega arith in rw same (omega arith)
days_of_400s (suc k) n =
    let next : n + 400 * suc k ≡ (n + 400 * k) + 400 = omega arith in
    rw next (omega (arith, days_of_400 (n + 400 * k), days_of_400s k n))

days_to_10000 : days_of_years 8_030 ≡ 2_932_897
unfolding days_of_years
days_to_10000 = days_of_400s 20 30

pub year-four_digits : (n : ℕ) → n ≤ 2_932_896 → (date_of n).year < 10_000
unfolding day_number
year-four_digits n few =
    let on = date_of-on n in
    elim (cases_lt (date_of n).year 10_000) [
      | inl less ↦ less
      | inr many ↦
          let same : ((date_of n).year - 10_000) + 8_030 ≡ (date_of n).year - 1970 = omega (arith, many) in
          let rises = rw same at (rising_years ((date_of n).year - 10_000) 8_030) in
          absurd (omega (arith, on.number, rises, days_to_10000, few))
    ]

-- ---- the place of a date in its year

pub whole_years : (year month day : ℕ) → days_of_years (year - 1970) ≤ day_number year month day
unfolding day_number
whole_years year month day = omega arith

-- the months up to one, and that one, are within the year's
months_rise : (year k m : ℕ) → days_of_months year m ≤ days_of_months year (k + m)
unfolding days_of_months
months_rise year zero m = let same : 0 + m ≡ m = omega arith in rw same (omega arith)
months_rise year (suc k) m = let same : suc k + m ≡ suc (k + m) = omega arith in rw same (omega (arith, months_rise year k m))

december_last : (year : ℕ) → days_of_months year 12 ≡ days_of_months year 11 + 31
unfolding days_of_months
december_last year = refl

pub within_year : (year month day : ℕ) → is_date year month day ≡ true → day_number year month day < days_of_years (year - 1970) + days_in_year year
unfolding day_number
within_year year month day real =
    let is = IsCalendarDate-from_test year month day real in
    let same : (12 - month) + month ≡ 12 = omega (arith, is.to_december) in
    let rises = rw same at (months_rise year (12 - month) month) in
    omega (arith, rises, months_more year month is.from_january, december_last year, days_of_year year, is.first, is.last)

pub days_in_year-most : (year : ℕ) → days_in_year year ≤ 366
days_in_year-most year = elim (cases_Bool (is_leap year)) [
  | inl leap ↦ rw leap (omega arith)
  | inr common ↦ rw common (omega arith)
]
