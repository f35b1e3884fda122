-- Late intervals.
use Rattle.std.specs.Prelude.{◌≡◌, ◌⊎◌, ℕ, ◌≤◌, List, slice_get, Bool, false, Option, Some, None, MatchOption, ⊤, if◌then◌else◌}
use Rattle.std.specs.List.{list_any}
use Rattle.std.specs.Option.{option_map_or}
use Rattle.intervals.specs.declared.interval.Interval.{Interval}
use Rattle.arch_types.specs.declared.row.Row.{Row}
use Rattle.intervals.specs.Interval.{interval_of}
use Rattle.late_marks.specs.Mark.{is_late_by}
use Rattle.mdb_items.specs.Database.{Database}
use Rattle.history_items.specs.declared.fills.Fill.{Fill}
use Rattle.history_items.specs.declared.items.Item.{Item}
use Rattle.history_items.specs.Items.{changes_interval, database_item, is_row_of_interval, row_item}
use Rattle.history_items.specs.Fills.{base_in}
use Rattle.history_items.specs.Places.{last_place}

-- a row of table `tm`, the first table, with its time in the interval stands at this position
pub record StandsIn (exponent : ℕ) (interval : Interval) (position : ℕ) (history : List Item) : Type 0 where
  pub row : Row
  pub there : slice_get history position ≡ Some (row_item row)
  pub table : row.table ≡ 0
  pub time : interval_of exponent row.key.time ≡ interval.0

-- a database stands at this position
abbrev pub StandsDatabase : ℕ → List Item → Type 0
StandsDatabase position history = (database : Database) × (slice_get history position ≡ Some (database_item database))

-- what changes an interval stands at this position: such a row, or a database
abbrev pub ChangesAt : ℕ → Interval → ℕ → List Item → Type 0
ChangesAt exponent interval position history = StandsIn exponent interval position history ⊎ StandsDatabase position history

-- an interval has a row
pub record HasRow (exponent : ℕ) (interval : Interval) (history : List Item) : Type 0 where
  pub position : ℕ
  pub stands : StandsIn exponent interval position history

-- what changes it stands at or after a base
pub record IsChangedSince (exponent : ℕ) (interval : Interval) (base : ℕ) (history : List Item) : Type 0 where
  pub position : ℕ
  pub changes : ChangesAt exponent interval position history
  pub since : base ≤ position

-- an interval is late where it has a row, and was never filled or is changed since the base of its last fill
pub record IsLate (exponent : ℕ) (interval : Interval) (history : List Item) (fills : List Fill) : Type 0 where
  pub row : HasRow exponent interval history
  pub unseen : MatchOption (base_in interval fills) ⊤ (λ base. IsChangedSince exponent interval base history)

-- ---- lateness by the last change alone

-- the position of what changed the interval last, where it has a row
abbrev pub last_in : ℕ → Interval → List Item → Option ℕ
last_in exponent interval history =
    if list_any (is_row_of_interval exponent interval) history
    then last_place (changes_interval exponent interval) history
    else None

-- the interval has no row, or it has one, and what changes it stands at this position and nowhere after it
abbrev pub IsLastIn : ℕ → Interval → List Item → Option ℕ → Type 0
IsLastIn exponent interval history None = HasRow exponent interval history → ⊥
IsLastIn exponent interval history (Some last) =
    HasRow exponent interval history
    × ChangesAt exponent interval last history
    × ((position : ℕ) → ChangesAt exponent interval position history → position ≤ last)

-- whether an interval is late: it has a row, and is late by its last change
abbrev pub is_late_in : ℕ → Interval → List Item → List Fill → Bool
is_late_in exponent interval history fills =
    option_map_or (λ last. is_late_by last (base_in interval fills)) (last_in exponent interval history) false
