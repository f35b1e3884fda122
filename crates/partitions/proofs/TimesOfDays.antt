-- The days of times.
use Rattle.std.proofs.Common.{◌≡◌, ℤ, pos, ◌<ℤ◌, ◌≤ℤ◌, ◌+ℤ◌, ◌-ℤ◌, ◌*ℤ◌, ◌↔◌, Bool, true, false, refl, arith}
use Rattle.std.specs.Prelude.{int_lt}
use Rattle.std.proofs.lemmas.Int.{ints}
use Rattle.time_text.specs.Day.{day_of}
use Rattle.time_text.proofs.DayFacts.{on_its_day, day_is, days_rise}
use Rattle.partitions.specs.Bounds.{HasTimeOn}

-- bounds that hold a time have one on a day exactly where it is from the first time's day to the last time's
pub has_time_on : (from to day : ℤ) → from <ℤ to → HasTimeOn from to day ↔ ((day_of from ≤ℤ day) × (day ≤ℤ day_of (to -ℤ pos 1)))
has_time_on from to day some = (within, found)
  where
    within : HasTimeOn from to day → (day_of from ≤ℤ day) × (day ≤ℤ day_of (to -ℤ pos 1))
    within has = (rw (← has.3) (days_rise from has.0 has.1), rw (← has.3) (days_rise has.0 (to -ℤ pos 1) (omega (arith, ints, has.2))))

    found : (day_of from ≤ℤ day) × (day ≤ℤ day_of (to -ℤ pos 1)) → HasTimeOn from to day
    found days = by (int_lt (pos 86_400_000 *ℤ day) from) refl
      where
        first : from <ℤ (pos 86_400_000 *ℤ (day_of from +ℤ pos 1))
        first = (on_its_day from).1

        last : (pos 86_400_000 *ℤ day_of (to -ℤ pos 1)) ≤ℤ (to -ℤ pos 1)
        last = (on_its_day (to -ℤ pos 1)).0

        by : (b : Bool) → int_lt (pos 86_400_000 *ℤ day) from ≡ b → HasTimeOn from to day
        by true before = (from, omega (arith, ints), some, (day_is from day).1 (grind (arith, ints), omega (arith, ints, first, days.0)))
        by false from_start = (pos 86_400_000 *ℤ day, grind (arith, ints), omega (arith, ints, last, days.1), (day_is (pos 86_400_000 *ℤ day) day).1 (omega (arith, ints), omega (arith, ints)))
