-- What `values` prints.
use Rattle.std.specs.Prelude.{ℕ, ℤ, List, [], ◌∷◌, ◌++◌, length, flat_map, codes, decimal}
use Rattle.std.specs.List.{filter_map}
use Rattle.arch_types.specs.declared.cell.Cell.{Cell}
use Rattle.arch_types.specs.declared.row.Row.{Row}
use Rattle.arch_types.specs.Arrivals.{arrivals}
use Rattle.arch_types.specs.History.{firsts}
use Rattle.arch_types.specs.Table.{table_of}
use Rattle.mdb_items.specs.Database.{Database}
use Rattle.mdb_lookups.specs.Lookups.{calibration_of}
use Rattle.container_extract.specs.Chain.{packet_name_of}
use Rattle.container_extract.specs.Extraction.{cell_of}
use Rattle.retrieval.specs.CellText.{cell_line}

-- the rows of packets of link 1, all in table 0, with the packet names that a database gives them
abbrev pub named_rows : Database → List (List ℕ) → ℤ → List Row
named_rows db packets moment = arrivals 1 moment (packet_name_of db) (λ p. 0 ∷ []) packets

-- the cells of a parameter, duplicates dropped, in the order of their keys
abbrev pub cells_of : Database → ℕ → List (List ℕ) → ℤ → List Cell
cells_of db number packets moment = filter_map (cell_of db number) (table_of 0 (firsts (named_rows db packets moment)))

-- a line for each cell
abbrev pub cell_lines : Database → ℕ → List Cell → List ℕ
cell_lines db number cells = flat_map (cell_line (calibration_of db number)) cells

-- the last line: how many cells there are
abbrev pub values_line : ℕ → List ℕ
values_line count = codes "values " ++ decimal count ++ codes "\n"

-- the text of a parameter over a dump with these packets and this rest, received at a moment: its cells, and where nothing is left the last line
abbrev pub values_text : Database → ℕ → List (List ℕ) → List ℕ → ℤ → List ℕ
values_text db number packets [] moment = cell_lines db number (cells_of db number packets moment) ++ values_line (length (cells_of db number packets moment))
values_text db number packets (octet ∷ rest) moment = cell_lines db number (cells_of db number packets moment)
