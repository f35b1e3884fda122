-- The cells that a range asks of a set.
use Rattle.std.specs.Prelude.{◌≡◌, ◌⊎◌, ℕ, ◌-◌, ◌<◌, ℤ, Bool, List, Option, filter}
use Rattle.std.specs.List.Sorted.{IsPermutation, IsSortedBy}
use Rattle.arch_types.specs.Directions.{in_direction, truncated}
use Rattle.arch_types.specs.declared.cell.Cell.{Cell}
use Rattle.arch_types.specs.declared.direction.Direction.{Direction}
use Rattle.mdb_items.specs.Database.{Database}
use Rattle.segment_codec.specs.RangeColumn.{first_in, is_key_in_range}
use Rattle.segment_codec.specs.declared.segment.Segment.{Segment}
use Rattle.param_segments.specs.Cells.{is_cell_earlier, segment_cells, set_cells, set_raw_cells}
use Rattle.param_segments.specs.RowPlaces.{numbered_segment}
use Rattle.param_segments.specs.Rows.{SetRow}
use Rattle.param_segments.specs.declared.cell_range.CellRange.{CellRange}
use Rattle.param_segments.specs.declared.raw_cell.RawCell.{RawCell}

-- whether a cell's time lies in a half-open range
abbrev pub is_cell_in_range : ℤ → ℤ → Cell → Bool
is_cell_in_range low high cell = is_key_in_range low high cell.key

-- cells as a range asks for them: the last first where it is descending, and of these the first `limit`
abbrev pub as_range_asks : {X : Type 0} → CellRange → List X → List X
as_range_asks range cells = truncated range.limit (in_direction range.direction cells)

-- the cells of a parameter that a range asks of rows
abbrev pub cells_in_range : Database → ℕ → CellRange → List SetRow → List Cell
cells_in_range db q range rows =
    as_range_asks range (filter (is_cell_in_range range.from range.to) (set_cells db q rows))

-- ---- before they are calibrated

-- whether a raw cell's time lies in a range
abbrev pub is_raw_cell_in_range : ℤ → ℤ → RawCell → Bool
is_raw_cell_in_range low high cell = is_key_in_range low high cell.key

-- the raw cells of a parameter in rows whose time lies in a range
abbrev pub raw_cells_in_range : ℕ → ℤ → ℤ → List SetRow → List RawCell
raw_cells_in_range q low high rows = filter (is_raw_cell_in_range low high) (set_raw_cells q rows)

-- those of a segment
abbrev pub segment_cells_in_range : ℕ → ℤ → ℤ → Segment → List RawCell
segment_cells_in_range q low high s = filter (is_raw_cell_in_range low high) (segment_cells q s)

-- and of these the first so many that a range asks, in their own order
abbrev pub segment_cells_asked : ℕ → CellRange → Segment → List RawCell
segment_cells_asked q range s = first_in range.direction range.limit (segment_cells_in_range q range.from range.to s)

-- ---- the groups of a set, in a direction

-- the segment so many steps into a set
abbrev pub segment_of_step : Direction → List Segment → ℕ → Segment
segment_of_step direction segments step = numbered_segment (in_direction direction segments) step

-- it's of the same group as the one a step before
abbrev pub GoesOn : Direction → List Segment → ℕ → Type 0
GoesOn direction segments step =
    (0 < step) × ((segment_of_step direction segments (step - 1)).parameters ≡ (segment_of_step direction segments step).parameters)

-- how many cells it's asked for: those that its group still wants, or as many as the limit
abbrev pub IsAskedOf : Direction → List Segment → ℕ → ℕ → ℕ → ℕ → Type 0
IsAskedOf direction segments step limit wanted asked =
    (asked ≡ limit) ⊎ ((asked ≡ wanted) × GoesOn direction segments step)

-- what was gathered, in the order of keys, begins in a direction with the first so many of all
abbrev pub GivesFirst : Direction → Option ℕ → List RawCell → List RawCell → Type 0
GivesFirst direction limit gathered all =
    (sorted : List RawCell) → IsPermutation gathered sorted → IsSortedBy is_cell_earlier sorted →
    truncated limit (in_direction direction sorted) ≡ truncated limit (in_direction direction all)
