-- What holds of moments, of days and of their texts.
use Rattle.std.specs.Prelude.{◌≡◌, ◌↔◌, ℤ, pos, ◌≤ℤ◌, ◌<ℤ◌, ◌+ℤ◌, ◌*ℤ◌, codes, true, Some, unsigned_abs}
use Rattle.time_text.specs.Day.{day_of, IsDayName}
use Rattle.time_text.specs.Digits.{has_shape}
use Rattle.time_text.specs.TimeText.{time_of}
use Rattle.time_text.specs.Spelling.{time_text_of, day_name_of}

-- a later moment doesn't lie on an earlier day
abbrev pub DaysRise : Type 0
DaysRise = (t u : ℤ) → t ≤ℤ u → day_of t ≤ℤ day_of u

-- a day has the 86,400,000 milliseconds from its number of times as many on
abbrev pub DayIs : Type 0
DayIs = (t d : ℤ) → (day_of t ≡ d) ↔ (((pos 86_400_000 *ℤ d) ≤ℤ t) × (t <ℤ (pos 86_400_000 *ℤ (d +ℤ pos 1))))

-- the text of a moment in the years 1970 to 9999 is YYYY-MM-DDTHH:MM:SS.mmm, and is read as that moment
abbrev pub TimeTextIsRead : Type 0
TimeTextIsRead = (t : ℤ) → pos 0 ≤ℤ t → t ≤ℤ pos 253_402_300_799_999 →
    (has_shape (codes "0000-00-00T00:00:00.000") (time_text_of t) ≡ true) × (time_of (time_text_of t) ≡ Some t)

-- the name of a day in the years 1970 to 9999 is YYYY/DOY, of that day
abbrev pub DayNameIsOfDay : Type 0
DayNameIsOfDay = (day : ℤ) → pos 0 ≤ℤ day → day ≤ℤ pos 2_932_896 → IsDayName (day_name_of day) (unsigned_abs day)
