-- What holds of intervals and of fills.
use Rattle.std.specs.Prelude.{◌≡◌, ◌≢◌, ℕ, Bool, List, [], ◌∷◌, ◌++◌, filter, Some, None}
use Rattle.std.specs.Ordering.{int_eq}
use Rattle.intervals.specs.declared.interval.Interval.{Interval}
use Rattle.arch_types.specs.declared.inserted.Inserted.{Inserted}
use Rattle.arch_types.specs.declared.inserted.Installed.{Installed}
use Rattle.arch_types.specs.declared.row.Row.{Row}
use Rattle.intervals.specs.Interval.{interval_of}
use Rattle.arch_types.specs.Table.{table_of}
use Rattle.history_items.specs.declared.fills.Addition.{Addition}
use Rattle.history_items.specs.declared.fills.Fill.{Fill}
use Rattle.history_items.specs.declared.fills.Fill.TheVariants.{Fault}
use Rattle.mdb_items.specs.Database.{Database}
use Rattle.history_items.specs.declared.items.Item.{Item}
use Rattle.history_items.specs.Items.{prefix, rows_in}
use Rattle.history_items.specs.Databases.{database_in}
use Rattle.history_items.specs.Fills.{base_in, in_flight, reopened}
use Rattle.history_items.specs.Late.{IsLate}
use Rattle.interval_fills.specs.Intervals.{rows_of_interval, NoneSince}
use Rattle.interval_fills.specs.Steps.{MachineState, first_state, state_of, Ingests, BeginsFill, InstallsFill, IsFillBase, IsStoredBase, filled, given_up, freed, all_freed}
use Rattle.interval_fills.specs.Invariant.{MachineInvariant}

-- ---- intervals

-- the rows in an interval's range of times are those whose time is in the interval
abbrev pub RangeIsInterval : Type 0
RangeIsInterval = (exponent : ℕ) (interval : Interval) (history : List Item) →
    rows_of_interval exponent interval history
    ≡ filter (λ row. int_eq (interval_of exponent row.key.time) interval.0) (table_of 0 (rows_in history))

-- where nothing that changes an interval stands at or after a front, its rows are those below the front
abbrev pub RowsAreThoseBelow : Type 0
RowsAreThoseBelow = (exponent : ℕ) (interval : Interval) (front : ℕ) (history : List Item) →
    NoneSince exponent interval front history →
    rows_of_interval exponent interval history ≡ rows_of_interval exponent interval (prefix front history)

-- and the database in force is the one below it
abbrev pub DatabaseIsThatBelow : Type 0
DatabaseIsThatBelow = (first : Database) (exponent : ℕ) (interval : Interval) (front : ℕ) (history : List Item) →
    NoneSince exponent interval front history →
    database_in first history ≡ database_in first (prefix front history)

-- an interval that was filled and isn't late has the rows that its last fill had
abbrev pub FilledRowsStay : Type 0
FilledRowsStay = (exponent : ℕ) (interval : Interval) (base : ℕ) (s : MachineState) →
    base_in interval s.fills ≡ Some base →
    (IsLate exponent interval s.history s.fills → ⊥) →
    rows_of_interval exponent interval s.history ≡ rows_of_interval exponent interval (prefix base s.history)

-- ---- fills

-- The first state keeps the invariant, and so does each step, where the base of an installed fill is one that a fill
-- may have. So do a fill that is read from an archive, a fault of the disk and a reopen.
pub record StepsKeepInvariant : Type 0 where
  pub first : (exponent : ℕ) → MachineInvariant exponent first_state
  pub ingests : (exponent : ℕ) (old new : MachineState) (rows : List Row) (outcomes : List Inserted) →
      MachineInvariant exponent old → Ingests old rows outcomes new → MachineInvariant exponent new
  pub begins : (exponent : ℕ) (old new : MachineState)
      (interval : Interval) (base : ℕ) (rows : List Row) → MachineInvariant exponent old →
      BeginsFill exponent old interval base rows new → MachineInvariant exponent new
  pub installs : (exponent : ℕ) (old new : MachineState)
      (interval : Interval) (base : ℕ) (installed : Installed) → MachineInvariant exponent old →
      IsFillBase exponent interval base old.history → InstallsFill exponent old interval base installed new → MachineInvariant exponent new
  pub gives_up : (exponent : ℕ) (old : MachineState) (interval : Interval) →
      MachineInvariant exponent old → MachineInvariant exponent (given_up interval old)
  pub settles : (exponent : ℕ) (old : MachineState) →
      MachineInvariant exponent old → MachineInvariant exponent (state_of old.history (all_freed old.fills))
  pub opens : (exponent : ℕ) (old : MachineState) (interval : Interval) (base : ℕ) → MachineInvariant exponent old →
      IsStoredBase exponent interval base old.history → MachineInvariant exponent (filled interval base old)
  pub faults : (exponent : ℕ) (old : MachineState) (count : ℕ) (wrote : Bool) (unacknowledged : Addition) →
      MachineInvariant exponent old →
      MachineInvariant exponent (state_of old.history (old.fills ++ Fault count wrote unacknowledged ∷ []))
  pub reopens : (exponent : ℕ) (old : MachineState) →
      MachineInvariant exponent old → MachineInvariant exponent (state_of old.history (reopened old.fills))

-- a fill has one outcome: it is there or stale by one position, and one state comes next
abbrev pub InstallHasOneOutcome : Type 0
InstallHasOneOutcome = (exponent : ℕ) (old new other : MachineState) (interval : Interval) (base : ℕ)
    (became otherwise : Installed) → InstallsFill exponent old interval base became new →
    InstallsFill exponent old interval base otherwise other → (became ≡ otherwise) × (new ≡ other)

-- an interval whose fill was installed is neither late nor in flight, and its base is that of the fill
abbrev pub InstalledIsNotLate : Type 0
InstalledIsNotLate = (exponent : ℕ) (interval : Interval) (base : ℕ) (s : MachineState) →
    NoneSince exponent interval base s.history →
    (IsLate exponent interval s.history (filled interval base s).fills → ⊥)
    × (in_flight interval (filled interval base s).fills ≡ None)
    × (base_in interval (filled interval base s).fills ≡ Some base)

-- a flight that ended is none
abbrev pub FreedIsFree : Type 0
FreedIsFree = (interval : Interval) (fills : List Fill) → in_flight interval (freed interval fills) ≡ None

-- a flight that ended without a fill leaves each base, and the flights of other intervals
abbrev pub FreedLeavesRest : Type 0
FreedLeavesRest = (interval other : Interval) (fills : List Fill) →
    (base_in other (freed interval fills) ≡ base_in other fills)
    × (other ≢ interval → in_flight other (freed interval fills) ≡ in_flight other fills)

-- the end of all flights leaves each base
abbrev pub AllFreedLeavesBases : Type 0
AllFreedLeavesBases = (interval : Interval) (fills : List Fill) →
    base_in interval (all_freed fills) ≡ base_in interval fills

-- once each flight ended no interval is in flight
abbrev pub NoneIsInFlight : Type 0
NoneIsInFlight = (interval : Interval) (fills : List Fill) → in_flight interval (all_freed fills) ≡ None
