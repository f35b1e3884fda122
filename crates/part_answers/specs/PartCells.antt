-- The cells that the parts of a plan have of a parameter, and the answer over them.
use Rattle.std.specs.Prelude.{ℕ, ℤ, ◌-◌, List, [], ◌∷◌, Bool, false, not, nat_lt, filter, flat_map, length, Option, Some, None, if◌then◌else◌}
use Rattle.std.specs.List.{filter_map}
use Rattle.std.specs.Arc.{arc_value}
use Rattle.asks.specs.declared.ask.Request.{Request}
use Rattle.arch_types.specs.declared.cell.Cell.{Cell}
use Rattle.arch_types.specs.declared.row.Row.{Row}
use Rattle.arch_types.specs.Table.{is_in_time_range}
use Rattle.mdb_items.specs.Database.{Database}
use Rattle.container_extract.specs.Extraction.{cell_of}
use Rattle.container_extract.specs.Answer.{as_asked}
use Rattle.param_segments.specs.declared.plan.Part.{Part}
use Rattle.param_segments.specs.declared.plan.Part.TheVariants.{Set, Rows}
use Rattle.param_segments.specs.CellRange.{is_cell_in_range}
use Rattle.param_segments.specs.Cells.{set_cells}

-- whether there are as many as may be
abbrev pub is_full : Option ℕ → List Cell → Bool
is_full None cells = false
is_full (Some limit) cells = not (nat_lt (length cells) limit)

-- one cell, or none
abbrev pub cell_list : Option Cell → List Cell
cell_list None = []
cell_list (Some cell) = cell ∷ []

-- how many cells a limit has room for beside some
abbrev pub limit_left : Option ℕ → List Cell → Option ℕ
limit_left None cells = None
limit_left (Some limit) cells = Some (limit - length cells)

-- the cell of a parameter in a row, where the row has one and its time lies in a range
abbrev pub cell_in_range : Database → ℕ → ℤ → ℤ → Row → Option Cell
cell_in_range db q low high row = if is_in_time_range low high row then cell_of db q row else None

-- the cells of a parameter that rows give in a range
abbrev pub cells_of_rows : Database → ℕ → ℤ → ℤ → List Row → List Cell
cells_of_rows db q low high rows = filter_map (cell_of db q) (filter (is_in_time_range low high) rows)

-- the cells of a parameter that a part has in a range: those of its set, or those that its rows give
abbrev pub cells_of_part : Database → ℕ → ℤ → ℤ → Part → List Cell
cells_of_part db q low high (Set interval set) = filter (is_cell_in_range low high) (set_cells db q (arc_value set))
cells_of_part db q low high (Rows interval rows) = cells_of_rows db q low high rows

-- the cells that a request for the parameter with a number asks of parts
abbrev pub answer_over_parts : Database → ℕ → Request → List Part → List Cell
answer_over_parts db number request parts =
    as_asked request (flat_map (cells_of_part db number request.from request.to) parts)

-- the cells that such a request asks of rows
abbrev pub answer_over_rows : Database → ℕ → Request → List Row → List Cell
answer_over_rows db number request rows =
    as_asked request (cells_of_rows db number request.from request.to rows)
