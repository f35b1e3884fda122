-- What holds of items, outcomes, late intervals and fill lists.
use mathlib.Core.List.{Sublist}
use Rattle.std.specs.Prelude.{◌≡◌, ◌↔◌, ℕ, ◌+◌, ◌≤◌, List, [], ◌∷◌, ◌++◌, filter, length, map, nat_lt, option_map, take, slice_get, Some, None, IsTrue, if◌then◌else◌}
use Rattle.std.specs.List.{list_any}
use Rattle.std.specs.Option.{option_or, is_some}
use Rattle.intervals.specs.declared.interval.Interval.{Interval}
use Rattle.arch_types.specs.declared.inserted.Inserted.{Inserted}
use Rattle.arch_types.specs.declared.row.Row.{Row}
use Rattle.arch_types.specs.History.{IsHistory, ingested}
use Rattle.mdb_items.specs.Database.{Database}
use Rattle.mdb_items.specs.Texts.{Text}
use Rattle.history_items.specs.declared.items.Item.{Item}
use Rattle.history_items.specs.declared.fills.Fill.{Fill}
use Rattle.history_items.specs.declared.fills.Fill.TheVariants.{Done}
use Rattle.history_items.specs.Items.{after_rows, database_item, databases_in, is_of_interval, items_of, placed_from, prefix, row_item, rows_in}
use Rattle.history_items.specs.Databases.{database_in, names_in, places_in}
use Rattle.history_items.specs.Outcomes.{outcomes_of, fresh_of, Says}
use Rattle.history_items.specs.FillList.{flights_of}
use Rattle.history_items.specs.Fills.{is_same, base_in, base_after, in_flight, flight_after, IsLastDone, IsBegunLast, rows_of_faults, pending_fault_of, reopened, above, Rising}
use Rattle.history_items.specs.Late.{IsLate, IsLastIn, last_in, is_late_in}

-- ---- items

-- the rows and databases of items in two parts are those of the parts
abbrev pub PartsHaveTheirOwn : Type 0
PartsHaveTheirOwn = (before after : List Item) →
    (rows_in (before ++ after) ≡ rows_in before ++ rows_in after)
    × (databases_in (before ++ after) ≡ databases_in before ++ databases_in after)

-- items of rows are these rows, and no database
abbrev pub RowsAreRows : Type 0
RowsAreRows = (rows : List Row) → (rows_in (items_of rows) ≡ rows) × (databases_in (items_of rows) ≡ [])

-- rows that come to a history come to its rows, whatever databases stand between
abbrev pub RowsComeToRows : Type 0
RowsComeToRows = (history : List Item) (rows : List Row) → rows_in (after_rows history rows) ≡ ingested (rows_in history) rows

-- the placed rows of items in two parts are those of the parts
abbrev pub PlacesGoOn : Type 0
PlacesGoOn = (first : ℕ) (before after : List Item) →
    placed_from first (before ++ after) ≡ placed_from first before ++ placed_from (first + length before) after

-- the rows below a front are those of the first items
abbrev pub RowsBelowFront : Type 0
RowsBelowFront = (front : ℕ) (history : List Item) →
    map (λ placed. placed.1) (filter (λ placed. nat_lt placed.0 front) (placed_from 0 history)) ≡ rows_in (prefix front history)

-- rows change neither the database in force nor the packet names
abbrev pub RowsKeepDatabase : Type 0
RowsKeepDatabase = (first : Database) (history : List Item) (rows : List Row) →
    (database_in first (history ++ items_of rows) ≡ database_in first history)
    × (names_in first (history ++ items_of rows) ≡ names_in first history)

-- the packet names of more items come behind those that were there, so each keeps its place
abbrev pub NamesKeepPlaces : Type 0
NamesKeepPlaces = (first : Database) (history later : List Item) →
    (more : List Text) × (names_in first (history ++ later) ≡ names_in first history ++ more)

-- each name of the database in force has a place
abbrev pub EachNameHasPlace : Type 0
EachNameHasPlace = (first : Database) (history : List Item) →
    length (places_in first history) ≡ length (database_in first history).containers

-- ---- outcomes

-- a batch has one outcome per row
abbrev pub OneOutcomePerRow : Type 0
OneOutcomePerRow = (history : List Item) (rows : List Row) → length (outcomes_of history rows) ≡ length rows

-- an outcome is answered for a row exactly where it says the truth of the row and what stands before it
abbrev pub OutcomesSay : Type 0
OutcomesSay = (history : List Item) (rows : List Row) (i : ℕ) (row : Row) (outcome : Inserted) →
    IsHistory (rows_in history) → slice_get rows i ≡ Some row →
    (slice_get (outcomes_of history rows) i ≡ Some outcome) ↔ Says (after_rows history (take i rows)) row outcome

-- an ingest puts the rows that are new behind the history
abbrev pub FreshRowsAreAdded : Type 0
FreshRowsAreAdded = (history : List Item) (rows : List Row) →
    after_rows history rows ≡ history ++ items_of (fresh_of history rows)

-- what an ingest puts behind the history are rows of the batch, in its order
abbrev pub IngestAddsRowsInOrder : Type 0
IngestAddsRowsInOrder = (history : List Item) (rows : List Row) →
    (more : List Row) × (after_rows history rows ≡ history ++ items_of more) × Sublist more rows

-- the rows that are new are a batch of which each is new
abbrev pub FreshRowsAreNew : Type 0
FreshRowsAreNew = (history : List Item) (rows : List Row) →
    (after_rows history (fresh_of history rows) ≡ history ++ items_of (fresh_of history rows))
    × (length (fresh_of history rows) ≤ length rows)

-- each row of two batches is new exactly where each of the first is, and each of the second after them
abbrev pub NewInTurn : Type 0
NewInTurn = (history : List Item) (first second : List Row) →
    (after_rows history (first ++ second) ≡ history ++ items_of (first ++ second))
    ↔ ((after_rows history first ≡ history ++ items_of first)
    × (after_rows (history ++ items_of first) second ≡ (history ++ items_of first) ++ items_of second))

-- ---- late intervals

-- where an interval has a row, the position of its last change is that of what changes it, and the greatest
abbrev pub LastIsGreatest : Type 0
LastIsGreatest = (exponent : ℕ) (interval : Interval) (history : List Item) →
    IsLastIn exponent interval history (last_in exponent interval history)

-- one row more
abbrev pub LastAfterRow : Type 0
LastAfterRow = (exponent : ℕ) (interval : Interval) (history : List Item) (row : Row) →
    last_in exponent interval (history ++ row_item row ∷ [])
    ≡ (if is_of_interval exponent interval row then Some (length history) else last_in exponent interval history)

-- one database more
abbrev pub LastAfterDatabase : Type 0
LastAfterDatabase = (exponent : ℕ) (interval : Interval) (history : List Item) (database : Database) →
    last_in exponent interval (history ++ database_item database ∷ [])
    ≡ option_map (λ last. length history) (last_in exponent interval history)

-- the last change decides whether an interval is late
abbrev pub LateByLast : Type 0
LateByLast = (exponent : ℕ) (interval : Interval) (history : List Item) (fills : List Fill) →
    IsTrue (is_late_in exponent interval history fills) ↔ IsLate exponent interval history fills

-- ---- fill lists

-- the base of an interval is that of its last Done, and there is none exactly where no Done of it stands in the list
abbrev pub BaseIsOfLastDone : Type 0
BaseIsOfLastDone = (interval : Interval) (fills : List Fill) →
    ((base : ℕ) → (base_in interval fills ≡ Some base) ↔ IsLastDone interval base fills)
    × ((base_in interval fills ≡ None) ↔ ((place base : ℕ) → slice_get fills place ≡ Some (Done interval base) → ⊥))

-- an interval is in flight, with a base, exactly where a Begun of it with that base stands in the list and nothing that
-- ends the flight behind
abbrev pub FlightIsBegunLast : Type 0
FlightIsBegunLast = (interval : Interval) (base : ℕ) (fills : List Fill) →
    (in_flight interval fills ≡ Some base) ↔ IsBegunLast interval base fills

-- the list of flights has an interval exactly where it is in flight
abbrev pub FlightsAreInFlight : Type 0
FlightsAreInFlight = (interval : Interval) (fills : List Fill) →
    list_any (is_same interval) (flights_of fills) ≡ is_some (in_flight interval fills)

-- one item more
abbrev pub BasesAfterItem : Type 0
BasesAfterItem = (interval : Interval) (fills : List Fill) (item : Fill) →
    (base_in interval (fills ++ item ∷ []) ≡ base_after interval (base_in interval fills) item)
    × (in_flight interval (fills ++ item ∷ []) ≡ flight_after interval (in_flight interval fills) item)

-- what more items hold comes after what is held, and the first count that stands stays
abbrev pub FaultsAfterItems : Type 0
FaultsAfterItems = (fills more : List Fill) →
    (rows_of_faults (fills ++ more) ≡ rows_of_faults fills ++ rows_of_faults more)
    × (pending_fault_of (fills ++ more) ≡ option_or (pending_fault_of fills) (pending_fault_of more))

-- counts go on rising over items whose counts rise from above the last count
abbrev pub CountsGoOn : Type 0
CountsGoOn = (low high next : ℕ) (fills more : List Fill) → low ≤ above high → high ≤ next →
    Rising low high fills → Rising (above high) next more → Rising low next (fills ++ more)

-- a reopen takes away the pending fault, and nothing else
abbrev pub ReopenSettles : Type 0
ReopenSettles = (fills : List Fill) →
    (pending_fault_of (reopened fills) ≡ None)
    × (rows_of_faults (reopened fills) ≡ rows_of_faults fills)
    × (length (reopened fills) ≡ length fills)
    × ((low high : ℕ) → Rising low high fills → Rising low high (reopened fills))
    × ((interval : Interval) → (base_in interval (reopened fills) ≡ base_in interval fills)
    × (in_flight interval (reopened fills) ≡ in_flight interval fills))
