-- A civil date and time of day, and the moment that it is.
use Rattle.std.specs.Prelude.{ℕ, ◌+◌, ◌*◌, ◌&&◌, Bool, nat_lt, Option, Some, None, ℤ, pos, if◌then◌else◌}
use Rattle.time_text.specs.Calendar.{is_date, day_number}
use Rattle.time_text.specs.declared.civil.Civil.{Civil}

-- a day has this time; second 60 is none
abbrev pub is_time_of_day : Civil → Bool
is_time_of_day c = nat_lt c.hour 24 && nat_lt c.minute 60 && nat_lt c.second 60

-- the calendar has the date, and a day has the time
unfoldable pub is_real : Civil → Bool
is_real c = is_date c.year c.month c.day && is_time_of_day c

-- the milliseconds since midnight
abbrev pub millis_of_day : Civil → ℕ
millis_of_day c = 3_600_000 * c.hour + 60_000 * c.minute + 1_000 * c.second + c.milli

-- the milliseconds since 1970-01-01T00:00:00, every day having 86,400 seconds
unfoldable pub millis_of : Civil → ℕ
millis_of c =
    86_400_000 * day_number c.year c.month c.day + millis_of_day c

-- the moment, where there is one
abbrev pub moment_of : Civil → Option ℤ
moment_of c = if is_real c then Some (pos (millis_of c)) else None
