-- The rows of a history by table, in the order of the history.
use Rattle.std.specs.Prelude.{◌≡◌, ℕ, ◌+◌, ◌<◌, ◌≤◌, List, [], length, map, slice_index_or, vec_len, vec_capacity}
use Rattle.std.specs.Global.{Vec}
use Rattle.std.specs.declared.snapshot.Snapshot.{Snapshot}
use Rattle.arch_types.specs.declared.row.Row.{Row}
use Rattle.history_items.specs.declared.items.Item.{Item}
use Rattle.history_items.specs.Items.{items_of}
use Rattle.yarch_table.specs.Stored.{TableView}
use Rattle.yarch_table.specs.Placed.{stored_from}

-- a table without rows or room
abbrev pub no_table : TableView
no_table = record { stored = []; room = 0 }

-- the rows of a table
abbrev pub table_in : List TableView → ℕ → TableView
table_in tables table = slice_index_or tables table no_table

-- the rows that were noted, in the order of the history
abbrev pub noted_rows : List (Snapshot Row) → List Row
noted_rows order = map (λ noted. noted.value) order

-- their items: a history in memory has no others
abbrev pub items_in : List (Snapshot Row) → List Item
items_in order = items_of (noted_rows order)

-- each table has its rows of the history from a position on, each with its position, and has room; so has the list of
-- the history's rows
pub record AreRowTables (from : ℕ) (tables : List TableView) (order : Vec (Snapshot Row)) (room : ℕ) : Type 0 where
  pub placed_in : (table : ℕ) → table < length tables →
      (table_in tables table).stored ≡ stored_from from table (noted_rows order.items)
  pub has_room : (table : ℕ) → table < length tables → room ≤ (table_in tables table).room
  pub order_has_room : vec_len order + room ≤ vec_capacity order
