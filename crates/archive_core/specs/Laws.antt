-- What holds of cells and of runs.
use mathlib.Core.List.{IsPrefix}
use Rattle.std.specs.Prelude.{◌≡◌, ◌↔◌, ℕ, Bool, List, [], ◌∷◌, ◌++◌, length, map, Some}
use Rattle.std.specs.List.{filter_map}
use Rattle.intervals.specs.declared.interval.Interval.{Interval}
use Rattle.history_items.specs.declared.fills.Addition.{Addition}
use Rattle.history_items.specs.declared.fills.Fill.TheVariants.{Fault}
use Rattle.history_items.specs.declared.items.Item.{Item}
use Rattle.history_items.specs.Items.{prefix}
use Rattle.history_items.specs.Databases.{database_in}
use Rattle.history_items.specs.FillList.{flights_of}
use Rattle.history_items.specs.Fills.{base_in, reopened}
use Rattle.history_items.specs.Late.{IsLate}
use Rattle.archive_core.specs.declared.event.Event.{Event}
use Rattle.archive_core.specs.declared.event.Event.TheVariants.{Abandon}
use Rattle.archive_core.specs.declared.reply.Reply.{Reply}
use Rattle.archive_core.specs.declared.reply.Reply.TheVariants.{Abandoned}
use Rattle.archive_core.specs.Alike.{AreAlike}
use Rattle.archive_core.specs.Cells.{values_of_interval}
use Rattle.archive_core.specs.Machine.{MachineStep, MachineRun}
use Rattle.container_extract.specs.Extraction.{cell_of}
use Rattle.interval_fills.specs.Intervals.{rows_of_interval, NoneSince}
use Rattle.interval_fills.specs.Invariant.{MachineInvariant}
use Rattle.interval_fills.specs.Steps.{MachineState, first_state, state_of, all_freed}
use Rattle.mdb_items.specs.Database.{Database}

-- ---- cells

-- an interval's cells are those of its rows
abbrev pub CellsAreOfRows : Type 0
CellsAreOfRows = (first : Database) (q exponent : ℕ) (interval : Interval) (history : List Item) →
    values_of_interval first q exponent interval history
    ≡ filter_map (cell_of (database_in first history) q) (rows_of_interval exponent interval history)

-- where nothing that changes an interval stands at or after a front, its cells are those of the items below the front,
-- whatever the parameter
abbrev pub CellsAreThoseBelow : Type 0
CellsAreThoseBelow = (first : Database) (q exponent : ℕ) (interval : Interval) (front : ℕ) (history : List Item) →
    NoneSince exponent interval front history →
    values_of_interval first q exponent interval history
    ≡ values_of_interval first q exponent interval (prefix front history)

-- an interval that was filled and isn't late has the cells that its last fill had
abbrev pub FilledCellsStay : Type 0
FilledCellsStay = (first : Database) (q exponent : ℕ) (interval : Interval) (base : ℕ) (s : MachineState) →
    base_in interval s.fills ≡ Some base → (IsLate exponent interval s.history s.fills → ⊥) →
    values_of_interval first q exponent interval s.history
    ≡ values_of_interval first q exponent interval (prefix base s.history)

-- ---- replies

-- an event has one reply in a state, and one state comes next
abbrev pub ReplyIsOne : Type 0
ReplyIsOne = (exponent : ℕ) (tables : List (List ℕ)) (db : Database)
    (old new other : MachineState) (event : Event) (reply otherwise : Reply) →
    MachineStep exponent tables db old event reply new → MachineStep exponent tables db old event otherwise other →
    (reply ≡ otherwise) × (new ≡ other)

-- and so have events one after the other
abbrev pub RepliesAreOne : Type 0
RepliesAreOne = (exponent : ℕ) (tables : List (List ℕ)) (db : Database)
    (old new other : MachineState) (events : List Event) (replies otherwise : List Reply) →
    MachineRun exponent tables db old events replies new → MachineRun exponent tables db old events otherwise other →
    (replies ≡ otherwise) × (new ≡ other)

-- what a state replies to an event, a state that is alike replies too, and they are alike after it
abbrev pub AlikeStatesReplyAlike : Type 0
AlikeStatesReplyAlike = (exponent : ℕ) (tables : List (List ℕ)) (db : Database)
    (old new alike : MachineState) (event : Event) (reply : Reply) →
    AreAlike old alike → MachineStep exponent tables db old event reply new →
    (next : MachineState) × MachineStep exponent tables db alike event reply next × AreAlike new next

-- a fault of the disk that is noted leaves a state alike, whatever its count, and so does a reopen
abbrev pub FaultsChangeNoReply : Type 0
FaultsChangeNoReply = (s : MachineState) (count : ℕ) (wrote : Bool) (unacknowledged : Addition) →
    AreAlike s (state_of s.history (s.fills ++ Fault count wrote unacknowledged ∷ []))
    × AreAlike s (state_of s.history (reopened s.fills))

-- ---- runs

-- a step keeps what holds of every state
abbrev pub StepsKeepMachine : Type 0
StepsKeepMachine = (exponent : ℕ) (tables : List (List ℕ)) (db : Database)
    (old new : MachineState) (event : Event) (reply : Reply) →
    MachineInvariant exponent old → MachineStep exponent tables db old event reply new → MachineInvariant exponent new

-- a step puts rows behind the history and items behind the fill list, and changes nothing that stands there
abbrev pub StepsOnlyAdd : Type 0
StepsOnlyAdd = (exponent : ℕ) (tables : List (List ℕ)) (db : Database)
    (old new : MachineState) (event : Event) (reply : Reply) →
    MachineStep exponent tables db old event reply new → IsPrefix old.history new.history × IsPrefix old.fills new.fills

-- each state that a run from the first state leads to keeps the invariant
abbrev pub RunsKeepInvariant : Type 0
RunsKeepInvariant = (exponent : ℕ) (tables : List (List ℕ)) (db : Database)
    (events : List Event) (replies : List Reply) (new : MachineState) →
    MachineRun exponent tables db first_state events replies new → MachineInvariant exponent new

-- the end of all flights is a run in which each task in flight is given up, in the order in which they began
abbrev pub SettlingIsAbandons : Type 0
SettlingIsAbandons = (exponent : ℕ) (tables : List (List ℕ)) (db : Database) (caller : ℕ) (s : MachineState) →
    MachineRun exponent tables db s (map (Abandon caller) (flights_of s.fills))
    (map (λ _. Abandoned) (flights_of s.fills)) (state_of s.history (all_freed s.fills))

-- a run over events and more events is one over each in turn, from a state between them
abbrev pub RunsInTurn : Type 0
RunsInTurn = (exponent : ℕ) (tables : List (List ℕ)) (db : Database)
    (old new : MachineState) (events later : List Event)
    (replies more : List Reply) → length events ≡ length replies →
    MachineRun exponent tables db old (events ++ later) (replies ++ more) new
    ↔ ((mid : MachineState) × MachineRun exponent tables db old events replies mid
    × MachineRun exponent tables db mid later more new)
