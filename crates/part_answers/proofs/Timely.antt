-- The cells of rows and of sets whose time lies in a range.
use Rattle.std.proofs.Common.{◌≡◌, ◌∙◌, ℕ, ℤ, List, [], ◌∷◌, reverse, Bool, true, false, cond, Option, None, ap, refl}
use Rattle.std.specs.Prelude.{filter, if◌then◌else◌}
use Rattle.std.specs.List.{cons_option, filter_map}
use Rattle.arch_types.specs.Directions.{in_direction, truncated}
use Rattle.arch_types.specs.declared.cell.Cell.{Cell}
use Rattle.arch_types.specs.declared.direction.Direction.{Direction}
use Rattle.arch_types.specs.declared.row.Row.{Row}
use Rattle.arch_types.specs.Table.{is_in_time_range}
use Rattle.mdb_items.specs.Database.{Database}
use Rattle.container_extract.specs.Extraction.{cell_of}
use Rattle.param_segments.specs.CellRange.{cells_in_range, is_cell_in_range}
use Rattle.param_segments.specs.Cells.{set_cells}
use Rattle.param_segments.specs.Rows.{SetRow}
use Rattle.param_segments.specs.declared.cell_range.CellRange.{CellRange}
use Rattle.part_answers.specs.PartCells.{cell_in_range, cells_of_rows}
use Rattle.part_answers.proofs.Limited.{reversed_cells}

one_row : (db : Database) (q : ℕ) (row : Row) (rows : List Row) (b : Bool) → cons_option (if b then cell_of db q row else None) (filter_map (cell_of db q) rows) ≡ filter_map (cell_of db q) (cond b (row ∷ rows) rows)
one_row db q row rows true = refl
one_row db q row rows false = refl

-- the cells in a range are those of the rows in the range
pub rows_in_range : (db : Database) (q : ℕ) (low high : ℤ) (rows : List Row) → filter_map (cell_in_range db q low high) rows ≡ cells_of_rows db q low high rows
rows_in_range db q low high [] = refl
rows_in_range db q low high (row ∷ rows) =
    ap (cons_option (cell_in_range db q low high row)) (rows_in_range db q low high rows) ∙ one_row db q row (filter (is_in_time_range low high) rows) (is_in_time_range low high row)

-- the same, the last first
pub rows_in_range_back : (db : Database) (q : ℕ) (low high : ℤ) (rows : List Row) → filter_map (cell_in_range db q low high) (reverse rows) ≡ reverse (cells_of_rows db q low high rows)
rows_in_range_back db q low high rows = reversed_cells (cell_in_range db q low high) rows ∙ ap reverse (rows_in_range db q low high rows)

-- what a range asks of a set, by its parts
pub range_asks : (db : Database) (q : ℕ) (range : CellRange) (low high : ℤ) (direction : Direction) (limit : Option ℕ) (rows : List SetRow) → range.from ≡ low → range.to ≡ high → range.direction ≡ direction → range.limit ≡ limit →
    cells_in_range db q range rows ≡ truncated limit (in_direction direction (filter (is_cell_in_range low high) (set_cells db q rows)))
range_asks db q range low high direction limit rows from to turned most =
    let asked : ℤ → ℤ → Direction → Option ℕ → List Cell = λ a b d l. truncated l (in_direction d (filter (is_cell_in_range a b) (set_cells db q rows))) in
    ap (λ (a : ℤ). asked a range.to range.direction range.limit) from ∙ ap (λ (b : ℤ). asked low b range.direction range.limit) to ∙ ap (λ (d : Direction). asked low high d range.limit) turned
    ∙ ap (λ (l : Option ℕ). asked low high direction l) most
