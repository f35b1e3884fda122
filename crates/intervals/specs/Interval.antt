-- The intervals of the parameter archive.
use Rattle.std.specs.Prelude.{◌≡◌, ℕ, ℤ, pos, ◌^◌, ◌+ℤ◌, ◌*ℤ◌}
use Rattle.std.specs.Int.{int_div_euclid}
use Rattle.std.specs.Ordering.{int_cmp}
use Rattle.std.specs.declared.cmp.Ordering.{Ordering}
use Rattle.text_forms.specs.ClockTime.{IsClockTime}
use Rattle.intervals.specs.declared.interval.Interval.{Interval}

-- the exponent of the intervals of each archive of format 1
abbrev pub format_1_exponent : ℕ
format_1_exponent = 22

-- the interval of a time is floor(t / 2^e), the time in milliseconds, e the exponent of the archive's intervals
abbrev pub interval_of : ℕ → ℤ → ℤ
interval_of exponent time = int_div_euclid time (pos (2 ^ exponent))

-- intervals stand in the order of their numbers
abbrev pub interval_cmp : Interval → Interval → Ordering
interval_cmp a b = int_cmp a.0 b.0

-- the first time of an interval, in milliseconds, of which an interval has 2^exponent
abbrev pub interval_start : ℕ → Interval → ℤ
interval_start exponent interval = interval.0 *ℤ pos (2 ^ exponent)

-- the first time after it
abbrev pub interval_end : ℕ → Interval → ℤ
interval_end exponent interval = (interval.0 +ℤ pos 1) *ℤ pos (2 ^ exponent)

-- a moment of the clock is in the interval
abbrev pub HasClockTime : ℕ → Interval → Type 0
HasClockTime exponent interval = (time : ℤ) × IsClockTime time × (interval_of exponent time ≡ interval.0)
