-- The moment of a call.
use Rattle.std.specs.Prelude.{◌≡◌, ℤ, Option, Some, None}
use Rattle.text_forms.specs.ClockTime.{IsClockTime}

-- the moment that the clock tells, or some moment
abbrev pub IsMomentOf : Option ℤ → ℤ → Type 0
IsMomentOf None moment = IsClockTime moment
IsMomentOf (Some known) moment = moment ≡ known
