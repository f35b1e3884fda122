-- Rows at positions, and the rows in the order of their positions.
use Rattle.std.specs.Prelude.{◌≡◌, ℕ, List, length, slice_get, Some, Contains}
use Rattle.arch_types.specs.declared.row.Row.{Row}

-- these are the rows of a list, each at its position there and each once
pub record AreInOrder (placed : List (ℕ × Row)) (rows : List Row) : Type 0 where
  pub as_many : length placed ≡ length rows
  pub only : (position : ℕ) (row : Row) → Contains placed (position, row) → slice_get rows position ≡ Some row
  pub each : (position : ℕ) (row : Row) → slice_get rows position ≡ Some row → Contains placed (position, row)
