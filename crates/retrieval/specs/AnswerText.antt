-- The text of the answers to asks for values.
use Rattle.std.specs.Prelude.{ℕ, List, ◌++◌, length, codes, decimal}
use Rattle.arch_types.specs.declared.cell.Cell.{Cell}
use Rattle.mdb_items.specs.Database.{Database}
use Rattle.retrieval.specs.ValuesText.{cell_lines}

-- the first line of an answer or a replay: its number and the front
abbrev pub front_line : ℕ → ℕ → List ℕ
front_line k front = codes "ask " ++ decimal k ++ codes " front " ++ decimal front ++ codes "\n"

-- the last: how many cells or rows there are
abbrev pub end_line : ℕ → List ℕ
end_line count = codes "end " ++ decimal count ++ codes "\n"

-- the lines of an answer: its number and the front, the cells, and how many there are
abbrev pub answer_lines : ℕ → ℕ → Database → ℕ → List Cell → List ℕ
answer_lines k front db number cells = front_line k front ++ cell_lines db number cells ++ end_line (length cells)
