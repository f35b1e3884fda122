-- Rows at their positions in a history.
use Rattle.std.specs.Prelude.{ℕ, List, [], ◌∷◌, map}
use Rattle.arch_types.specs.declared.row.Row.{Row}

-- a row, and its position in the history
pub record Placed : Type 0 where
  pub position : ℕ
  pub row : Row

-- a row at a position
abbrev pub row_placed : ℕ → Row → Placed
row_placed position row = record { position = position; row = row }

-- rows, each at the position that stands beside it
abbrev pub placed_rows : List ℕ → List Row → List Placed
placed_rows [] rows = []
placed_rows (position ∷ positions) [] = []
placed_rows (position ∷ positions) (row ∷ rows) = row_placed position row ∷ placed_rows positions rows

-- the rows without their positions
abbrev pub rows_of_placed : List Placed → List Row
rows_of_placed rows = map (λ at. at.row) rows

-- each row behind its position
abbrev pub behind_positions : List Placed → List (ℕ × Row)
behind_positions placed = map (λ at. (at.position, at.row)) placed
