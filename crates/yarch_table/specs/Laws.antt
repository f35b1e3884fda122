-- What holds of a table whose stored rows are those of a history at their positions.
use Rattle.std.specs.Prelude.{◌≡◌, ℕ, ℤ, ◌+◌, ◌<◌, ◌≤◌, List, [], ◌∷◌, ◌++◌, length, take, drop, slice_index_or, true, false, IsPermutation}
use Rattle.std.specs.List.{list_any}
use Rattle.arch_types.specs.declared.row.Row.{Row}
use Rattle.arch_types.specs.declared.inserted.Inserted.{Inserted}
use Rattle.arch_types.specs.declared.inserted.Inserted.TheVariants.{New, Duplicate}
use Rattle.arch_types.specs.History.{is_in_table, is_duplicate_of, with_row}
use Rattle.arch_types.specs.Table.{table_at_front, table_of, range_of}
use Rattle.yarch_table.specs.declared.table.Stored.{Stored}
use Rattle.yarch_table.specs.Index.{by_key}
use Rattle.yarch_table.specs.Stored.{TableView, rows_of, seen_at, seen_between, IsInserted}
use Rattle.yarch_table.specs.Placed.{placed, stored_from}

-- what is seen at a front is the table of the history's prefix
abbrev pub SeenIsTable : Type 0
SeenIsTable = (front table : ℕ) (history : List Row) → seen_at front (placed table history) ≡ table_at_front front table history

-- what is seen at a front in a range of times is the range of the history's prefix
abbrev pub SeenIsRange : Type 0
SeenIsRange = (front table : ℕ) (low high : ℤ) (history : List Row) → seen_between front low high (placed table history) ≡ range_of table low high (take front history)

-- the rows in the order of their keys are the stored rows, each once, with its position
abbrev pub WalkHasEach : Type 0
WalkHasEach = (stored : List Stored) → IsPermutation stored (by_key stored)

-- without their positions they are the table of what the history has from a place on, of all of it from 0 on
abbrev pub WalkIsTable : Type 0
WalkIsTable = (n table : ℕ) (history : List Row) → rows_of (by_key (stored_from n table history)) ≡ table_of table (drop n history)

-- an insert at the history's end ingests the row
abbrev pub InsertIngests : Type 0
InsertIngests = (old new : TableView) (history : List Row) (row : Row) (result : Inserted) → old.stored ≡ placed row.table history →
    IsInserted old new row (length history) result → new.stored ≡ placed row.table (with_row history row)

-- a row that is ingested leaves the other tables
abbrev pub IngestKeepsOthers : Type 0
IngestKeepsOthers = (table : ℕ) (history : List Row) (row : Row) → is_in_table table row ≡ false → placed table (with_row history row) ≡ placed table history

-- ---- a table of the rows from a place of the history on

-- from the first place on it has all
abbrev pub FromFirstIsAll : Type 0
FromFirstIsAll = (table : ℕ) (history : List Row) → stored_from 0 table history ≡ placed table history

-- what is seen at a front is the table of the rows between the place and the front
abbrev pub SeenFromIsTable : Type 0
SeenFromIsTable = (n k table : ℕ) (history : List Row) → seen_at (n + k) (stored_from n table history) ≡ table_of table (take k (drop n history))

-- an insert at the history's end ingests the row, where none before the place has its table and key
abbrev pub InsertFromIngests : Type 0
InsertFromIngests = (n : ℕ) (old new : TableView) (history : List Row) (row : Row) (result : Inserted) → n ≤ length history →
    list_any (is_duplicate_of row) (take n history) ≡ false → old.stored ≡ stored_from n row.table history →
    IsInserted old new row (length history) result → new.stored ≡ stored_from n row.table (with_row history row)

-- a row that is ingested leaves the other tables
abbrev pub IngestFromKeepsOthers : Type 0
IngestFromKeepsOthers = (n table : ℕ) (history : List Row) (row : Row) → n ≤ length history → is_in_table table row ≡ false →
    stored_from n table (with_row history row) ≡ stored_from n table history

-- ---- what became of a row

-- a new row comes to the history's end
abbrev pub NewComesLast : Type 0
NewComesLast = (old new : TableView) (history : List Row) (row : Row) (position : ℕ) → old.stored ≡ placed row.table history →
    IsInserted old new row (length history) (New position) → (position ≡ length history) × (with_row history row ≡ history ++ row ∷ [])

-- a duplicate leaves the history, in which the row at the position told has its table and key
abbrev pub DuplicateIsKnown : Type 0
DuplicateIsKnown = (old new : TableView) (history : List Row) (row : Row) (at position : ℕ) → old.stored ≡ placed row.table history →
    IsInserted old new row at (Duplicate position) →
    (with_row history row ≡ history) × (position < length history) × ((d : Row) → is_duplicate_of row (slice_index_or history position d) ≡ true)
