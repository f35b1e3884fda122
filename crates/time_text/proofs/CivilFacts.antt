-- The moment of a civil date and time.
use Rattle.std.proofs.Common.{◌≡◌, ℕ, ◌+◌, ◌*◌, ◌/◌, ◌%◌, ◌<◌, true, false, cond, Some, None, ℤ, pos, inl, inr, refl, ap, arith, sym}
use Rattle.std.proofs.lemmas.Bool.{cases_Bool, and_from, and_right, lt-ltb, cond-false}
use Rattle.time_text.specs.Calendar.{is_date, day_number}
use Rattle.time_text.specs.Civil.{is_time_of_day, is_real, millis_of_day, millis_of, moment_of}
use Rattle.time_text.specs.declared.civil.Civil.{Civil}

-- a time of day on the day that was found
pub moment-found : (c : Civil) (day : ℕ) (moment : ℤ) → is_time_of_day c ≡ true → Some day ≡ cond (is_date c.year c.month c.day) (Some (day_number c.year c.month c.day)) None → moment ≡ pos (86_400_000 * day + millis_of_day c) → Some moment ≡ moment_of c
unfolding millis_of is_real
moment-found c day moment time found is =
    elim (cases_Bool (is_date c.year c.month c.day)) [
      | inl real ↦
          let same : Some day ≡ Some (day_number c.year c.month c.day) = rw real at found in
          let day_is : day ≡ day_number c.year c.month c.day = cc in
          let moment_is : moment ≡ pos (86_400_000 * day_number c.year c.month c.day + millis_of_day c) = rw day_is at is in
          rw (real, time) (ap (λ (m : ℤ). Some m) moment_is)
      | inr unreal ↦
          let none : ◌≡◌ (Some day) None = rw unreal at found in
          cc
    ]

-- no day was found
pub moment-none : (c : Civil) → ◌≡◌ None (cond (is_date c.year c.month c.day) (Some (day_number c.year c.month c.day)) None) → ◌≡◌ None (moment_of c)
unfolding is_real
moment-none c none =
    elim (cases_Bool (is_date c.year c.month c.day)) [
      | inl real ↦
          let found : ◌≡◌ None (Some (day_number c.year c.month c.day)) = rw real at none in
          cc
      | inr unreal ↦ rw unreal refl
    ]

pub moment-no_time : (c : Civil) → is_time_of_day c ≡ false → ◌≡◌ None (moment_of c)
unfolding is_real
moment-no_time c late =
    let unreal : is_real c ≡ false = and_right (is_date c.year c.month c.day) (is_time_of_day c) late in
    sym (cond-false _ _ _ unreal)

pub is_real-from : (c : Civil) → is_date c.year c.month c.day ≡ true → c.hour < 24 → c.minute < 60 → c.second < 60 → is_real c ≡ true
unfolding is_real
is_real-from c date hour minute second =
    and_from _ _ date (and_from _ _ (and_from _ _ (lt-ltb _ _ hour) (lt-ltb _ _ minute)) (lt-ltb _ _ second))

-- hours, minutes, seconds and milliseconds of what is less than a day
pub day_parts : (millis : ℕ) → millis < 86_400_000 → (3_600_000 * (millis / 1_000 / 3_600) + 60_000 * (millis / 1_000 / 60 % 60) + 1_000 * (millis / 1_000 % 60) + millis % 1_000 ≡ millis) × (millis / 1_000 / 3_600 < 24)
day_parts millis less = (omega arith, omega arith)

pub millis_of-is : (c : Civil) → millis_of c ≡ 86_400_000 * day_number c.year c.month c.day + millis_of_day c
unfolding millis_of
millis_of-is c = refl
