-- The text of `values`, as it is printed row by row.
use Rattle.std.specs.Prelude.{ℕ, List, [], ◌++◌, flat_map, length, Option, Some, None}
use Rattle.std.specs.List.{filter_map}
use Rattle.arch_types.specs.declared.cell.Cell.{Cell}
use Rattle.arch_types.specs.declared.row.Row.{Row}
use Rattle.arch_types.specs.Table.{sorted}
use Rattle.mdb_items.specs.declared.calibration.Calibration.{Calibration}
use Rattle.mdb_items.specs.Database.{Database}
use Rattle.container_extract.specs.Extraction.{cell_of}
use Rattle.space_packet.specs.declared.dump.Why.{Why}
use Rattle.space_packet.specs.declared.dump.Why.TheVariants.{End, Version, Truncated}
use Rattle.yarch_table.specs.declared.table.Stored.{Stored}
use Rattle.yarch_table.specs.Stored.{rows_of}
use Rattle.retrieval.specs.CellText.{cell_line}
use Rattle.mdb_lookups.specs.Lookups.{calibration_of}
use Rattle.retrieval.specs.ValuesText.{values_line}

-- the line of a cell, where there is one
abbrev pub line_if : Option Calibration → Option Cell → List ℕ
line_if calibration None = []
line_if calibration (Some cell) = cell_line calibration cell

-- the line of a parameter's cell in the packet of a row
unfoldable pub line_of : Database → ℕ → Row → List ℕ
line_of db number row = line_if (calibration_of db number) (cell_of db number row)

-- one value, or none
abbrev pub count_if : Option Cell → ℕ
count_if None = 0
count_if (Some cell) = 1

-- how many cells of a parameter a row has
unfoldable pub cells_in_row : Database → ℕ → Row → ℕ
cells_in_row db number row = count_if (cell_of db number row)

-- the cells of stored rows, in the order of their keys
abbrev pub cells_of_stored : Database → ℕ → List Stored → List Cell
cells_of_stored db number stored = filter_map (cell_of db number) (sorted (rows_of stored))

-- their lines
abbrev pub lines_of_cells : Database → ℕ → List Stored → List ℕ
lines_of_cells db number stored = flat_map (line_of db number) (sorted (rows_of stored))

-- the last line, where nothing is left of a dump
abbrev pub end_of_cells : Why → ℕ → List ℕ
end_of_cells End count = values_line count
end_of_cells Version count = []
end_of_cells Truncated count = []

-- what is printed of a dump
abbrev pub text_of_cells : Database → ℕ → List Stored → Why → List ℕ
text_of_cells db number stored why =
    lines_of_cells db number stored ++ end_of_cells why (length (cells_of_stored db number stored))
