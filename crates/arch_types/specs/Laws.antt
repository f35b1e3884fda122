-- What holds of dumps, histories and tables.
use Rattle.std.specs.Prelude.{◌≡◌, ℕ, ◌++◌, List, true, filter, take, IsPermutation, IsSortedByKey}
use Rattle.std.specs.List.{list_any, AllByRecursion}
use Rattle.arch_types.specs.declared.row.Row.{Row}
use Rattle.arch_types.specs.Dump.{IsDump}
use Rattle.arch_types.specs.Order.{key_cmp}
use Rattle.arch_types.specs.History.{is_in_table, is_duplicate_of, ingested, IsHistory}
use Rattle.arch_types.specs.Table.{table_at_front}

-- a dump has one list of packets and one rest
abbrev pub DumpIsOne : Type 0
DumpIsOne = (dump : List ℕ) (ps qs : List (List ℕ)) (r s : List ℕ) → IsDump dump ps r → IsDump dump qs s → (ps ≡ qs) × (r ≡ s)

-- a table at a front is sorted by key
abbrev pub TableIsSorted : Type 0
TableIsSorted = (front table : ℕ) (history : List Row) → IsSortedByKey (λ row. row.key) key_cmp (table_at_front front table history)

-- a table at a front has the rows of the history's prefix that are in it, each once and no other
abbrev pub TableHasItsRows : Type 0
TableHasItsRows = (front table : ℕ) (history : List Row) → IsPermutation (filter (is_in_table table) (take front history)) (table_at_front front table history)

-- a history stays one when rows are ingested
abbrev pub IngestKeepsHistory : Type 0
IngestKeepsHistory = (history rows : List Row) → IsHistory history → IsHistory (ingested history rows)

-- what is ingested comes after the history, and leaves it as it is
abbrev pub IngestOnlyAdds : Type 0
IngestOnlyAdds = (history rows : List Row) → (more : List Row) × (ingested history rows ≡ history ++ more)

-- after an ingest the history has the table and key of each row
abbrev pub IngestKeepsEachKey : Type 0
IngestKeepsEachKey = (history rows : List Row) → AllByRecursion (λ row. list_any (is_duplicate_of row) (ingested history rows) ≡ true) rows
