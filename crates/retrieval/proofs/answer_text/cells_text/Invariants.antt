use Rattle.std.proofs.Common.{◌≡◌, ◌++◌, []}
use Rattle.std.specs.Prelude.{flat_map, option_copied}
use Rattle.retrieval.specs.CellText.{cell_line}
use Rattle.retrieval.proofs.answer_text.cells_text.Given as goal

-- the text so far, and the lines of the cells that are left
abbrev pub invariant-loop-cell : goal.invariant-loop-cell
invariant-loop-cell l = record {
  empty : l.line_buffer ≡ [];
  text : l.text.items ++ flat_map (cell_line (option_copied l.fn.calibration)) l.cell-iterator ≡ flat_map (cell_line (option_copied l.fn.calibration)) l.cells;
}
