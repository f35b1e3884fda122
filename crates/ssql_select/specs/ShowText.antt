-- The text of SHOW.
use Rattle.std.specs.Prelude.{ℕ, List, [], ◌∷◌, ◌++◌, length, flat_map, codes, decimal}
use Rattle.std.specs.Fmt.{signed_decimal}
use Rattle.time_text.specs.Spelling.{day_name_of}
use Rattle.arch_types.specs.declared.row.Row.{Row}
use Rattle.arch_types.specs.declared.spans.Span.{Span}
use Rattle.partitions.specs.declared.partition.Partition.{Partition}
use Rattle.replay_merge.specs.RowSource.{rows_of_partition}
use Rattle.ssql_select.specs.declared.show.ShowLine.{ShowLine}
use Rattle.ssql_select.specs.declared.show.ShowLine.TheVariants as l
use Rattle.ssql_select.specs.SelectionText.{pname_of}

-- ---- what is shown

-- a partition with its rows, where it has any
abbrev pub line_of_rows : Partition → List Row → List ShowLine
line_of_rows partition [] = []
line_of_rows partition (row ∷ rows) = l.Partition (day_name_of partition.day) partition.pname (length (row ∷ rows)) ∷ []

-- a partition of a table with its rows
abbrev pub partition_line : ℕ → List Row → Partition → List ShowLine
partition_line table rows partition = line_of_rows partition (rows_of_partition table partition rows)

-- those of some partitions
abbrev pub partition_lines : ℕ → List Row → List Partition → List ShowLine
partition_lines table rows parts = flat_map (partition_line table rows) parts

-- ---- how it is written

-- the times of a record and how many rows it has, each behind a space, and the line's end
abbrev pub span_text : Span → List ℕ
span_text span = codes " " ++ signed_decimal span.first ++ codes " " ++ signed_decimal span.last ++ codes " " ++ decimal span.count ++ codes "\n"

-- a line
abbrev pub show_line : List (List ℕ) → ShowLine → List ℕ
show_line names (l.Partition day pname rows) = codes "partition " ++ day ++ codes " " ++ pname_of names pname ++ codes " " ++ decimal rows ++ codes "\n"
show_line names (l.Histogram pname span) = codes "histogram " ++ pname_of names pname ++ span_text span

-- the last line: how many stand before it
abbrev pub show_end : ℕ → List ℕ
show_end count = codes "show " ++ decimal count ++ codes "\n"

-- lines, and how many there are
abbrev pub show_text : List (List ℕ) → List ShowLine → List ℕ
show_text names lines = flat_map (show_line names) lines ++ show_end (length lines)
