-- What `make` prints: what it made and loaded, and what the archive says of it.
use Rattle.std.specs.Prelude.{ℕ, pos, List, [], ◌∷◌, ◌++◌, flat_map, length, codes, decimal, None, unwrap_or}
use Rattle.arch_types.specs.declared.direction.Direction.TheVariants.{Ascending}
use Rattle.asks.specs.declared.ask.Request.{Request}
use Rattle.asks.specs.Names.{parameter_number}
use Rattle.history_items.specs.Items.{rows_in}
use Rattle.interval_walks.specs.Counts.{intervals_in}
use Rattle.archive_store.specs.Entries.{FilledArchive}
use Rattle.archive_store.specs.LateFills.{late_in_archive}
use Rattle.archive_verify.specs.Verified.{database_of_archive}
use Rattle.retrieval.specs.FilledAnswer.{filled_answer}
use Rattle.archive_commands.specs.Verify.{verify_line}
use Rattle.script_answers.specs.Statements.{records_text}

-- ---- the first line

-- what an archive has of made packets: how many there were, its rows, those that came again, its intervals, and how
-- many of these are late
pub record MadeCounts : Type 0 where
  pub packets : ℕ
  pub rows : ℕ
  pub duplicates : ℕ
  pub intervals : ℕ
  pub late : ℕ

-- those of an archive, by how many packets there were and how many rows came again
abbrev pub made_counts : ℕ → ℕ → FilledArchive → MadeCounts
made_counts packets duplicates filled = record {
  packets = packets;
  rows = length (rows_in filled.plain.history);
  duplicates = duplicates;
  intervals = length (intervals_in filled.plain.exponent filled.plain.history);
  late = length (late_in_archive filled);
}

-- the seed of the packets, and those counts
abbrev pub make_line : ℕ → MadeCounts → List ℕ
make_line seed counts =
    (codes "make " ++ decimal seed ++ codes " packets " ++ decimal counts.packets)
    ++ (codes " rows " ++ decimal counts.rows ++ codes " duplicates " ++ decimal counts.duplicates)
    ++ (codes " intervals " ++ decimal counts.intervals ++ codes " late " ++ decimal counts.late ++ codes "\n")

-- ---- the cells

-- all values of a parameter, the earliest first
abbrev pub whole_request : List ℕ → Request
whole_request name =
    record { parameter = name; from = pos 0; to = pos 253402300799999; direction = Ascending; limit = None }

-- how many values of a parameter an archive has
abbrev pub cell_count : FilledArchive → List ℕ → ℕ
cell_count filled name =
    let db = database_of_archive filled in
    length (filled_answer db (unwrap_or (parameter_number db name) 0) (whole_request name) filled.plain.exponent
    filled.plain.history filled.fillings)

-- a parameter, and how many values it has
abbrev pub cells_line : FilledArchive → List ℕ → List ℕ
cells_line filled name = codes "cells " ++ name ++ codes " " ++ decimal (cell_count filled name) ++ codes "\n"

-- the parameters whose values are counted
abbrev pub counted_parameters : List (List ℕ)
counted_parameters = codes "apid" ∷ codes "temp" ∷ codes "level" ∷ []

-- ---- the whole

-- all that is printed of an archive of made packets: the counts, the values of its parameters, the records of `tm`, and
-- the line of a sound archive
abbrev pub summary_text : ℕ → ℕ → ℕ → FilledArchive → List ℕ
summary_text seed packets duplicates filled =
    make_line seed (made_counts packets duplicates filled) ++ flat_map (cells_line filled) counted_parameters
    ++ records_text filled.plain 0 ++ verify_line filled
