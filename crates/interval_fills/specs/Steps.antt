-- What an event does to a history and its fill list.
use Rattle.std.specs.Prelude.{◌≡◌, ◌≢◌, ℕ, ◌≤◌, ◌≤ℤ◌, List, [], ◌∷◌, ◌++◌, length, fold, Option, Some, None, if◌then◌else◌}
use Rattle.std.specs.Option.{is_some}
use Rattle.intervals.specs.declared.interval.Interval.{Interval}
use Rattle.arch_types.specs.declared.inserted.Inserted.{Inserted}
use Rattle.arch_types.specs.declared.inserted.Installed.{Installed}
use Rattle.arch_types.specs.declared.inserted.Installed.TheVariants as became
use Rattle.arch_types.specs.declared.row.Row.{Row}
use Rattle.history_items.specs.declared.fills.Fill.{Fill}
use Rattle.history_items.specs.declared.fills.Fill.TheVariants.{Begun, Done, Freed}
use Rattle.history_items.specs.declared.items.Item.{Item}
use Rattle.history_items.specs.Items.{after_rows}
use Rattle.history_items.specs.Outcomes.{outcomes_of}
use Rattle.history_items.specs.Fills.{in_flight}
use Rattle.history_items.specs.FillList.{flights_of}
use Rattle.history_items.specs.Late.{IsLate, last_in}
use Rattle.interval_fills.specs.Intervals.{rows_of_interval, HasRowBelow, NoneSince}

-- the history, and what happened to fills
pub record MachineState : Type 0 where
  pub history : List Item
  pub fills : List Fill

-- a state of these two
abbrev pub state_of : List Item → List Fill → MachineState
state_of history fills = record { history = history; fills = fills }

-- before the first event
abbrev pub first_state : MachineState
first_state = state_of [] []

-- ---- which interval is next

-- the interval is late, and no fill of it is in flight
pub record IsLateFree (exponent : ℕ) (interval : Interval) (s : MachineState) : Type 0 where
  pub late : IsLate exponent interval s.history s.fills
  pub free : in_flight interval s.fills ≡ None

-- each late interval is in flight
abbrev pub AllLateInFlight : ℕ → MachineState → Type 0
AllLateInFlight exponent s =
    (interval : Interval) → IsLate exponent interval s.history s.fills → in_flight interval s.fills ≢ None

-- the interval that is filled next: the least that is late and free, or none where each late one is in flight
abbrev pub IsNextToFill : ℕ → MachineState → Option Interval → Type 0
IsNextToFill exponent s None = AllLateInFlight exponent s
IsNextToFill exponent s (Some interval) =
    IsLateFree exponent interval s × ((other : Interval) → IsLateFree exponent other s → interval.0 ≤ℤ other.0)

-- ---- how fills begin and end

-- a base that a fill of the interval may have: it is at most the history's length, and a row of the interval stands
-- below it
pub record IsFillBase (exponent : ℕ) (interval : Interval) (base : ℕ) (history : List Item) : Type 0 where
  pub within : base ≤ length history
  pub row : HasRowBelow exponent interval base history

-- a base that a fill which is there may have: it is at most the history's length, and the interval has a row. Where the
-- fill was read from an archive, the row may stand at or after the base: the interval is late then
pub record IsStoredBase (exponent : ℕ) (interval : Interval) (base : ℕ) (history : List Item) : Type 0 where
  pub within : base ≤ length history
  pub row : HasRowBelow exponent interval (length history) history

-- the fill list once the interval's flight, where there is one, has ended without a fill
abbrev pub freed : Interval → List Fill → List Fill
freed interval fills = if is_some (in_flight interval fills) then fills ++ Freed interval ∷ [] else fills

-- the fill list once each flight has ended without a fill, in the order in which they began
abbrev pub all_freed : List Fill → List Fill
all_freed fills = fold (λ ended interval. freed interval ended) fills (flights_of fills)

-- a state once the interval's flight has ended without a fill
abbrev pub given_up : Interval → MachineState → MachineState
given_up interval s = state_of s.history (freed interval s.fills)

-- a state once a fill of the interval over the first `base` items is there
abbrev pub filled : Interval → ℕ → MachineState → MachineState
filled interval base s = state_of s.history (s.fills ++ Done interval base ∷ [])

-- ---- steps

-- rows come in: those whose table and key aren't there yet are put behind the history
pub record Ingests (old : MachineState) (rows : List Row) (outcomes : List Inserted) (new : MachineState) : Type 0 where
  pub outcomes_are : outcomes ≡ outcomes_of old.history rows
  pub history : new.history ≡ after_rows old.history rows
  pub fills : new.fills ≡ old.fills

-- a fill of the next interval begins, over the whole history
pub record BeginsFill (exponent : ℕ) (old : MachineState) (interval : Interval) (base : ℕ) (rows : List Row)
    (new : MachineState) : Type 0 where
  pub next : IsNextToFill exponent old (Some interval)
  pub base_is : base ≡ length old.history
  pub rows_are : rows ≡ rows_of_interval exponent interval old.history
  pub history : new.history ≡ old.history
  pub fills : new.fills ≡ old.fills ++ Begun interval base ∷ []

-- What became of a fill: it is there, where nothing that changes the interval stands at or after its base. Else it is
-- stale by the last such change, and given up.
abbrev pub InstallsFill : ℕ → MachineState → Interval → ℕ → Installed → MachineState → Type 0
InstallsFill exponent old interval base became.Done new =
    NoneSince exponent interval base old.history × (new ≡ filled interval base old)
InstallsFill exponent old interval base (became.Stale position) new =
    (base ≤ position) × (last_in exponent interval old.history ≡ Some position) × (new ≡ given_up interval old)
