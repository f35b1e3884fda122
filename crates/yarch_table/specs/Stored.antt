-- Stored rows, and what a table answers of them.
use Rattle.std.specs.Prelude.{◌≡◌, ℕ, ℤ, ◌+◌, List, [], ◌∷◌, ◌++◌, map, filter, nat_lt, Any, true, false}
use Rattle.std.specs.List.{list_any}
use Rattle.arch_types.specs.declared.row.Row.{Row}
use Rattle.arch_types.specs.declared.key.Key.{Key}
use Rattle.arch_types.specs.declared.inserted.Inserted.{Inserted}
use Rattle.arch_types.specs.declared.inserted.Inserted.TheVariants.{New, Duplicate}
use Rattle.arch_types.specs.History.{has_key}
use Rattle.arch_types.specs.Table.{sorted, is_in_time_range}
use Rattle.yarch_table.specs.declared.table.Stored.{Stored}

-- the stored rows of a table in the order of their insertion, and how many more go in without memory
pub record TableView : Type 0 where
  pub stored : List Stored
  pub room : ℕ

-- stored rows without their positions
abbrev pub rows_of : List Stored → List Row
rows_of stored = map (λ s. s.row) stored

-- the rows with a position below a front
abbrev pub rows_below : ℕ → List Stored → List Row
rows_below front stored = rows_of (filter (λ s. nat_lt s.position front) stored)

-- the rows below a front, in the order of their keys
abbrev pub seen_at : ℕ → List Stored → List Row
seen_at front stored = sorted (rows_below front stored)

-- the rows below a front with low <= time < high, in the order of their keys
abbrev pub seen_between : ℕ → ℤ → ℤ → List Stored → List Row
seen_between front low high stored = filter (is_in_time_range low high) (seen_at front stored)

-- a stored row has this key and this position
abbrev pub IsKeptAt : List Stored → Key → ℕ → Type 0
IsKeptAt stored key position = Any (λ s. (has_key key s.row ≡ true) × (s.position ≡ position)) stored

-- what became of a row: it is new and stands at its position, or a stored row has its key, and nothing changes
abbrev pub IsInserted : TableView → TableView → Row → ℕ → Inserted → Type 0
IsInserted old new row position (New p) =
    (list_any (has_key row.key) (rows_of old.stored) ≡ false) × (p ≡ position) × (new.stored ≡ old.stored ++ record { row = row; position = position } ∷ []) × (new.room + 1 ≡ old.room)
IsInserted old new row position (Duplicate p) =
    (list_any (has_key row.key) (rows_of old.stored) ≡ true) × IsKeptAt old.stored row.key p × (new ≡ old)
