-- The date and time of day of a moment.
use Rattle.std.proofs.Common.{◌≡◌, ℕ, ◌+◌, ◌*◌, ◌/◌, ◌%◌, ◌<◌, ◌≤◌, true, Some, ltb, ℤ, pos, unsigned_abs, refl, sym, ap, ◌∙◌, arith}
use Rattle.std.proofs.lemmas.Bool.{and_parts, ltb-true}
use Rattle.std.proofs.lemmas.Int.{ints}
use Rattle.time_text.specs.Calendar.{is_date, day_number, date_of}
use Rattle.time_text.specs.Civil.{is_time_of_day, is_real, millis_of}
use Rattle.time_text.specs.Laws.{TimeTextIsRead}
use Rattle.time_text.specs.Spelling.{civil_at, time_text_of}
use Rattle.time_text.specs.declared.civil.Civil.{Civil}
use Rattle.time_text.proofs.CalendarFacts.{IsCalendarDate-from_test}
use Rattle.time_text.proofs.CivilFacts.{is_real-from}
use Rattle.time_text.proofs.DateFacts.{date, date_of-number, date_of-on, year-four_digits, days_in_month-most}
use Rattle.time_text.proofs.WritingFacts.{IsWritable, has_shape-spelled, time_of-spelled}

-- a moment's parts
record HasParts (time day hour minute second milli : ℕ) : Type 0 where
  pub its_day : time / 86_400_000 ≡ day
  pub its_hour : time / 3_600_000 % 24 ≡ hour
  pub its_minute : time / 60_000 % 60 ≡ minute
  pub its_second : time / 1_000 % 60 ≡ second
  pub its_milli : time % 1_000 ≡ milli

parts_of : (time day hour minute second milli : ℕ) → hour < 24 → minute < 60 → second < 60 → milli < 1_000 → 86_400_000 * day + (3_600_000 * hour + 60_000 * minute + 1_000 * second + milli) ≡ time → HasParts time day hour minute second milli
parts_of time day hour minute second milli h m s ms is =
    let seconds : time / 1_000 ≡ 86_400 * day + 3_600 * hour + 60 * minute + second = omega (arith, is, ms) in
    let minutes : time / 60_000 ≡ 1_440 * day + 60 * hour + minute = omega (arith, is, ms, s) in
    let hours : time / 3_600_000 ≡ 24 * day + hour = omega (arith, is, ms, s, m) in
    record {
      its_day = omega (arith, is, ms, s, m, h);
      its_hour = rw hours (omega (arith, h));
      its_minute = rw minutes (omega (arith, m));
      its_second = rw seconds (omega (arith, s));
      its_milli = omega (arith, is, ms);
    }

-- a real date and time of day is that of its moment
pub civil_at-millis_of : (c : Civil) (time : ℕ) → is_real c ≡ true → c.milli < 1_000 → millis_of c ≡ time → civil_at time ≡ c
unfolding civil_at is_real millis_of
civil_at-millis_of c time real few is =
    let both = and_parts (is_date c.year c.month c.day) (is_time_of_day c) real in
    let times = and_parts _ (ltb c.second 60) both.1 in
    let first = and_parts (ltb c.hour 24) (ltb c.minute 60) times.0 in
    let p = parts_of time (day_number c.year c.month c.day) c.hour c.minute c.second c.milli (ltb-true _ _ first.0) (ltb-true _ _ first.1) (ltb-true _ _ times.1) few is in
    let on : date_of (time / 86_400_000) ≡ date c.year c.month c.day = date_of-number c.year c.month c.day _ both.0 (sym p.its_day) in
    rw (on, p.its_hour, p.its_minute, p.its_second, p.its_milli) refl

whole : (time : ℕ) → 86_400_000 * (time / 86_400_000) + (3_600_000 * (time / 3_600_000 % 24) + 60_000 * (time / 60_000 % 60) + 1_000 * (time / 1_000 % 60) + time % 1_000) ≡ time
whole time =
    let seconds : time ≡ 1_000 * (time / 1_000) + time % 1_000 = omega arith in
    let minutes : time / 1_000 ≡ 60 * (time / 60_000) + time / 1_000 % 60 = omega arith in
    let hours : time / 60_000 ≡ 60 * (time / 3_600_000) + time / 60_000 % 60 = omega arith in
    let days : time / 3_600_000 ≡ 24 * (time / 86_400_000) + time / 3_600_000 % 24 = omega arith in
    omega (arith, seconds, minutes, hours, days)

-- the date and time of day of a moment are real, of that moment, and each has the digits of its place
pub record IsCivilOf (c : Civil) (time : ℕ) : Type 0 where
  pub real : is_real c ≡ true
  pub moment : millis_of c ≡ time
  pub writable : IsWritable c

pub civil_at-is : (time : ℕ) → time ≤ 253_402_300_799_999 → IsCivilOf (civil_at time) time
unfolding civil_at millis_of
civil_at-is time last =
    let on = date_of-on (time / 86_400_000) in
    let d = date_of (time / 86_400_000) in
    let is = IsCalendarDate-from_test d.year d.month d.day on.real in
    let four = year-four_digits (time / 86_400_000) (omega (arith, last)) in
    let most = days_in_month-most d.year d.month in
    record {
      real = is_real-from (civil_at time) on.real (omega arith) (omega arith) (omega arith);
      moment = omega (arith, on.number, whole time);
      writable = record {
        year = four;
        month = omega (arith, is.to_december);
        day = omega (arith, is.last, most);
        hour = omega arith;
        minute = omega arith;
        second = omega arith;
        milli = omega arith;
      };
    }

-- the text of a moment has its shape, and is read as that moment
pub time_text_read : TimeTextIsRead
unfolding time_text_of
time_text_read t from last =
    let is = civil_at-is (unsigned_abs t) (omega (arith, ints, from, last)) in
    let moment : pos (millis_of (civil_at (unsigned_abs t))) ≡ t = omega (arith, ints, is.moment, from) in
    (has_shape-spelled _ is.writable, time_of-spelled _ is.writable is.real ∙ ap (λ (m : ℤ). Some m) moment)
