-- Fills that hold what their rows give.
use Rattle.std.specs.Prelude.{◌≡◌, ℕ, ◌≤◌, List, length, Option, Some, None, option_map, if◌then◌else◌}
use Rattle.intervals.specs.declared.interval.Interval.{Interval}
use Rattle.arch_types.specs.declared.row.Row.{Row}
use Rattle.history_items.specs.declared.items.Item.{Item}
use Rattle.history_items.specs.Fills.{is_same}
use Rattle.interval_fills.specs.Intervals.{rows_of_interval, NoneSince}

-- a fill that is there: the rows of its interval below this front of the history gave its set
pub record Filling (S : Type 0) : Type 0 where
  pub base : ℕ
  pub set : S

-- the last fill of each interval that has one
abbrev pub Fillings : Type 0 → Type 0
Fillings S = Interval → Option (Filling S)

-- no interval has a fill
abbrev pub no_fillings : {S : Type 0} → Fillings S
no_fillings = λ _. None

-- the base of an interval's fill, where it has one
abbrev pub base_of_filling : {S : Type 0} → Fillings S → Interval → Option ℕ
base_of_filling fillings interval = option_map (λ filling. filling.base) (fillings interval)

-- one fill more, in place of that of its interval
abbrev pub with_filling : {S : Type 0} → Fillings S → Interval → Filling S → Fillings S
with_filling fillings interval filling = λ other. if is_same other interval then Some filling else fillings other

-- `Holds` says that a set holds what rows give. Each interval's last fill holds what the interval's rows give, where none
-- of them came at or after its base.
pub record AreSound {S : Type 0} (exponent : ℕ) (Holds : S → List Row → Type 0) (history : List Item) (fillings : Fillings S)
    : Type 0 where
  pub within : (i : Interval) (f : Filling S) → fillings i ≡ Some f → f.base ≤ length history
  pub each : (i : Interval) (f : Filling S) → fillings i ≡ Some f → NoneSince exponent i f.base history →
      Holds f.set (rows_of_interval exponent i history)
