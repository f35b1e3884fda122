-- What holds of every state.
use Rattle.std.specs.Prelude.{◌≡◌, ℕ, Some}
use Rattle.intervals.specs.declared.interval.Interval.{Interval}
use Rattle.arch_types.specs.History.{IsHistory}
use Rattle.history_items.specs.Items.{rows_in}
use Rattle.history_items.specs.Fills.{base_in, in_flight}
use Rattle.interval_fills.specs.Steps.{MachineState, IsFillBase, IsStoredBase}

-- the rows are a history, each base of a fill is one that a fill which is there may have, and each base of a flight one
-- that a fill of its interval may have
pub record MachineInvariant (exponent : ℕ) (s : MachineState) : Type 0 where
  pub history : IsHistory (rows_in s.history)
  pub bases : (interval : Interval) (base : ℕ) → base_in interval s.fills ≡ Some base →
      IsStoredBase exponent interval base s.history
  pub flights : (interval : Interval) (base : ℕ) → in_flight interval s.fills ≡ Some base →
      IsFillBase exponent interval base s.history
