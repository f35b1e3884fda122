-- A table at a front: the rows of a history's prefix that are in it, in the order of their keys.
use Rattle.std.specs.Prelude.{ℕ, ℤ, List, Bool, not, ◌&&◌, filter, take, int_lt}
use Rattle.arch_types.specs.declared.row.Row.{Row}
use Rattle.arch_types.specs.Order.{is_before, order_by}
use Rattle.arch_types.specs.History.{is_in_table}

-- rows in the order of their keys
abbrev pub sorted : List Row → List Row
sorted rows = order_by is_before rows

-- the rows of a table, in the order of their keys
abbrev pub table_of : ℕ → List Row → List Row
table_of table history = sorted (filter (is_in_table table) history)

-- the table at a front, which is the length of a prefix of the history
abbrev pub table_at_front : ℕ → ℕ → List Row → List Row
table_at_front front table history = table_of table (take front history)

-- whether a row's time lies in a half-open range
abbrev pub is_in_time_range : ℤ → ℤ → Row → Bool
is_in_time_range low high row = not (int_lt row.key.time low) && int_lt row.key.time high

-- the rows of a table with from <= time < to, in the order of their keys
abbrev pub range_of : ℕ → ℤ → ℤ → List Row → List Row
range_of table low high history = filter (is_in_time_range low high) (table_of table history)
