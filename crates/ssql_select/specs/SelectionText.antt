-- The text of a selection.
use Rattle.std.specs.Prelude.{◌≡◌, ℕ, List, [], ◌∷◌, ◌++◌, length, flat_map, slice_get, unwrap_or, codes, decimal}
use Rattle.hex.specs.Hex.{encode_lower}
use Rattle.time_text.specs.Spelling.{time_text_of}
use Rattle.std.specs.List.{AllByRecursion}
use Rattle.arch_types.specs.declared.row.Row.{Row}
use Rattle.arch_types.specs.Packet.{apid_of}
use Rattle.replay_merge.specs.RowSource.{RowSourceState}
use Rattle.ssql_tokens.specs.declared.symbols.Column.{Column}
use Rattle.ssql_tokens.specs.declared.symbols.Column.TheVariants as col
use Rattle.ssql_types.specs.declared.query.TypedSelect.{TypedSelect}
use Rattle.ssql_select.specs.Selection.{selection_of}

-- a packet name by its number; a number that none has stands for none
abbrev pub pname_of : List (List ℕ) → ℕ → List ℕ
pname_of names number = unwrap_or (slice_get names number) []

-- what is written of a row in a column: times as YYYY-MM-DDTHH:MM:SS.mmm, a packet in hex
abbrev pub written_value : List (List ℕ) → Row → Column → List ℕ
written_value names row col.Gentime = time_text_of row.key.time
written_value names row col.SeqNum = decimal row.key.seq
written_value names row col.Rectime = time_text_of row.rectime
written_value names row col.Link = decimal row.link
written_value names row col.Pname = pname_of names row.pname
written_value names row col.Apid = decimal (apid_of row.packet)
written_value names row col.Length = decimal (length row.packet)
written_value names row col.Packet = encode_lower row.packet

-- the same behind a space
abbrev pub spaced_value : List (List ℕ) → Row → Column → List ℕ
spaced_value names row column = 32 ∷ written_value names row column

-- the columns of a row, with a space between
abbrev pub written_values : List (List ℕ) → Row → List Column → List ℕ
written_values names row [] = []
written_values names row (column ∷ columns) = written_value names row column ++ flat_map (spaced_value names row) columns

-- the line of a row
abbrev pub selected_line : List (List ℕ) → List Column → Row → List ℕ
selected_line names columns row = written_values names row columns ++ codes "\n"

-- the last line: how many rows there are
abbrev pub select_line : ℕ → List ℕ
select_line count = codes "select " ++ decimal count ++ codes "\n"

-- the lines of rows, and how many there are
abbrev pub selection_lines : List (List ℕ) → List Column → List Row → List ℕ
selection_lines names columns rows = flat_map (selected_line names columns) rows ++ select_line (length rows)

-- the lines of some rows that a source may give
pub record IsTextOfGiven (source : RowSourceState) (names : List (List ℕ)) (columns : List Column) (text : List ℕ)
    : Type 0 where
  pub rows : List Row
  pub given : AllByRecursion source.may_give rows
  pub lines : text ≡ selection_lines names columns rows

-- the text of what a query selects of a history
abbrev pub selection_text : List (List ℕ) → TypedSelect → List Row → List ℕ
selection_text names statement history = selection_lines names statement.columns (selection_of statement history)
