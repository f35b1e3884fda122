-- The items of a history: rows and mission databases. What tells them apart stands here alone.
use Rattle.std.specs.Prelude.{◌==◌, ◌&&◌, ◌||◌, ◌++◌, ◌∷◌, [], Bool, false, ℕ, List, take, map, fold, Option, Some, None, option_map, if◌then◌else◌}
use Rattle.std.specs.List.{enumerate_from, filter_map, list_any}
use Rattle.std.specs.Option.{is_some, option_map_or}
use Rattle.std.specs.Ordering.{int_eq}
use Rattle.intervals.specs.declared.interval.Interval.{Interval}
use Rattle.intervals.specs.Interval.{interval_of}
use Rattle.arch_types.specs.declared.row.Row.{Row}
use Rattle.arch_types.specs.History.{is_duplicate_of}
use Rattle.mdb_items.specs.Database.{Database}
use Rattle.history_items.specs.declared.items.Item.{Item}
use Rattle.history_items.specs.declared.items.Item.TheVariants as items

-- the item that a row is
abbrev pub row_item : Row → Item
row_item row = items.Row row

-- the item that a database is
abbrev pub database_item : Database → Item
database_item database = items.Mdb database

-- the row that an item is, where it is one
abbrev pub row_of_item : Item → Option Row
row_of_item (items.Row row) = Some row
row_of_item (items.Mdb database) = None

-- the database that an item is, where it is one
abbrev pub database_of_item : Item → Option Database
database_of_item (items.Row row) = None
database_of_item (items.Mdb database) = Some database

-- whether an item is a row that passes a test
abbrev pub is_row_with : (Row → Bool) → Item → Bool
is_row_with test item = option_map_or test (row_of_item item) false

-- whether an item is a database
abbrev pub is_database : Item → Bool
is_database item = is_some (database_of_item item)

-- the items that rows are
abbrev pub items_of : List Row → List Item
items_of rows = map row_item rows

-- the rows among items, in their order
abbrev pub rows_in : List Item → List Row
rows_in history = filter_map row_of_item history

-- the databases among items, in their order
abbrev pub databases_in : List Item → List Database
databases_in history = filter_map database_of_item history

-- whether an item is a row of the table and key of this row
abbrev pub has_key_of : Row → Item → Bool
has_key_of row = is_row_with (is_duplicate_of row)

-- a history after a row came to it: behind it, where no item has the row's table and key
abbrev pub after_row : List Item → Row → List Item
after_row history row = if list_any (has_key_of row) history then history else history ++ row_item row ∷ []

-- a history after rows came to it, one after the other
abbrev pub after_rows : List Item → List Row → List Item
after_rows history rows = fold after_row history rows

-- the first `front` items
abbrev pub prefix : ℕ → List Item → List Item
prefix front history = take front history

-- a row behind its place, where an item is one
abbrev pub placed_item : ℕ × Item → Option (ℕ × Row)
placed_item placed = option_map (λ row. (placed.0, row)) (row_of_item placed.1)

-- the rows of a history, each behind its place, which is counted from a first one on
abbrev pub placed_from : ℕ → List Item → List (ℕ × Row)
placed_from first history = filter_map placed_item (enumerate_from first history)

-- whether a row is of table `tm`, the first table, with its time in an interval
abbrev pub is_of_interval : ℕ → Interval → Row → Bool
is_of_interval exponent interval row = (row.table == 0) && int_eq (interval_of exponent row.key.time) interval.0

-- whether an item is such a row
abbrev pub is_row_of_interval : ℕ → Interval → Item → Bool
is_row_of_interval exponent interval = is_row_with (is_of_interval exponent interval)

-- whether an item changes what a fill of an interval holds: such a row, or a database
abbrev pub changes_interval : ℕ → Interval → Item → Bool
changes_interval exponent interval item = is_row_of_interval exponent interval item || is_database item
