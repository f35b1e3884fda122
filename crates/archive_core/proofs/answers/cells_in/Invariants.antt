use Rattle.std.proofs.Common.{◌≡◌, ◌++◌, drop}
use Rattle.std.specs.List.{filter_map}
use Rattle.container_extract.specs.Extraction.{cell_of}
use Rattle.archive_core.proofs.answers.cells_in.Given as goal

abbrev pub invariant-loop-row : goal.invariant-loop-row
invariant-loop-row g l = l.cells.items ++ filter_map (cell_of l.mdb l.number) (drop l.row-index l.rows) ≡ filter_map (cell_of l.mdb l.number) l.rows
