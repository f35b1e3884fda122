-- A text that is written piece by piece.
use Rattle.std.specs.Prelude.{ℕ, List, [], ◌++◌, flat_map}
use Rattle.arch_types.specs.declared.key.Key.{Key}
use Rattle.space_packet.specs.declared.dump.Why.{Why}
use Rattle.space_packet.specs.declared.dump.Why.TheVariants.{End, Version, Truncated}
use Rattle.dump_lines.specs.Text.{counts_line, key_line}
use Rattle.dump_lines.specs.declared.counts.Counts.{Counts}
use Rattle.dump_lines.specs.declared.index.DumpIndex.{DumpIndex}
use Rattle.dump_lines.specs.declared.receiving.Received.{Received}

-- the line of an entry
abbrev pub line_of_entry : Key × ℕ → List ℕ
line_of_entry entry = key_line entry.0 entry.1

-- the lines of entries, in their order
abbrev pub lines_of : List (Key × ℕ) → List ℕ
lines_of entries = flat_map line_of_entry entries

-- the last line, where nothing is left of a dump
abbrev pub end_of : Why → Counts → List ℕ
end_of End counts = counts_line counts.packets counts.rows counts.duplicates counts.idle
end_of Version counts = []
end_of Truncated counts = []

-- what is printed of a dump
abbrev pub text_of_index : Received DumpIndex → List ℕ
text_of_index received = lines_of received.rows.lengths.entries ++ end_of received.end.why received.rows.counts
