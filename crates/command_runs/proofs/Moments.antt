-- The moment that a clock tells.
use Rattle.std.proofs.Common.{◌≡◌, ℤ, Option, Some, None}
use Rattle.std.specs.Prelude.{IfSome}
use Rattle.text_forms.specs.ClockTime.{IsClockTime}
use Rattle.command_runs.specs.Moment.{IsMomentOf}

pub moment_of : (known : Option ℤ) (moment : ℤ) → IfSome known (λ next. moment ≡ next) → IsClockTime moment → IsMomentOf known moment
moment_of None moment e m = m
moment_of (Some next) moment e m = e
