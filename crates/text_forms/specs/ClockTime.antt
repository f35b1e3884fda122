-- The range of a clock.
use Rattle.std.specs.Prelude.{ℤ, ◌≤ℤ◌, pos, Bool, not, ◌&&◌, int_lt}

-- milliseconds from 1970-01-01T00:00:00.000 to 9999-12-31T23:59:59.999, without leap seconds
abbrev pub IsClockTime : ℤ → Type 0
IsClockTime time = (pos 0 ≤ℤ time) × (time ≤ℤ pos 253402300799999)

-- the same as a test
unfoldable pub is_clock_time : ℤ → Bool
is_clock_time time = not (int_lt time (pos 0)) && int_lt time (pos 253402300800000)
