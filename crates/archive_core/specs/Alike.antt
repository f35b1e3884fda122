-- States that no event tells apart.
use Rattle.std.specs.Prelude.{◌≡◌}
use Rattle.intervals.specs.declared.interval.Interval.{Interval}
use Rattle.history_items.specs.Fills.{base_in, in_flight}
use Rattle.interval_fills.specs.Steps.{MachineState}

-- two states with one history, whose fill lists tell the same bases and the same flights
pub record AreAlike (a b : MachineState) : Type 0 where
  pub history : a.history ≡ b.history
  pub bases : (interval : Interval) → base_in interval a.fills ≡ base_in interval b.fills
  pub flights : (interval : Interval) → in_flight interval a.fills ≡ in_flight interval b.fills
