-- From the rows of a dump to the ending of its values.
use Rattle.std.proofs.Common.{◌≡◌, ◌∙◌, ℕ, ℤ, List, [], ◌∷◌, ◌++◌, length, drop, Bool, true, false, Option, Some, None, sym, ap, refl, append-nil}
use Rattle.std.specs.Prelude.{flat_map, if◌then◌else◌, nat_lt}
use Rattle.std.specs.List.{cons_option, filter_map}
use Rattle.arch_types.specs.declared.cell.Cell.{Cell}
use Rattle.arch_types.specs.declared.row.Row.{Row}
use Rattle.arch_types.specs.Table.{sorted, table_of}
use Rattle.mdb_items.specs.declared.calibration.Calibration.{Calibration}
use Rattle.mdb_items.specs.Database.{Database}
use Rattle.container_extract.specs.Extraction.{cell_of}
use Rattle.space_packet.specs.declared.dump.Why.{Why}
use Rattle.space_packet.specs.declared.dump.Why.TheVariants as why
use Rattle.space_packet.specs.Rest.{why_of}
use Rattle.yarch_table.specs.declared.table.Stored.{Stored}
use Rattle.yarch_table.specs.Stored.{rows_of}
use Rattle.dump_lines.specs.declared.counts.Counts.{Counts}
use Rattle.dump_lines.specs.declared.receiving.Received.{Received}
use Rattle.dump_lines.specs.declared.table.DumpTable.{DumpTable}
use Rattle.dump_pieces.specs.Reading.{IsWholeDump}
use Rattle.retrieval.specs.CellText.{cell_line}
use Rattle.dump_lines.specs.DumpTable.{IsGathered}
use Rattle.dump_commands.specs.ValuesPrinting.{cells_of_stored, end_of_cells, line_if, line_of, lines_of_cells, text_of_cells}
use Rattle.mdb_lookups.specs.Lookups.{calibration_of}
use Rattle.retrieval.specs.ValuesText.{cell_lines, cells_of, values_line, values_text}
use Rattle.dump_commands.proofs.PacketNames.{cells_are}
use Rattle.dump_commands.proofs.Visible.{table-all}

-- ---- the text

line-cases : (calibration : Option Calibration) (o : Option Cell) (cells : List Cell) (text : List ℕ) → text ≡ flat_map (cell_line calibration) cells →
    line_if calibration o ++ text ≡ flat_map (cell_line calibration) (cons_option o cells)
line-cases calibration None cells text e = e
line-cases calibration (Some cell) cells text e = ap (λ (more : List ℕ). cell_line calibration cell ++ more) e

lines-are : (db : Database) (number : ℕ) (rows : List Row) →
    flat_map (line_of db number) rows ≡ flat_map (cell_line (calibration_of db number)) (filter_map (cell_of db number) rows)
unfolding line_of
lines-are db number [] = refl
lines-are db number (row ∷ rows) =
    line-cases (calibration_of db number) (cell_of db number row) (filter_map (cell_of db number) rows) (flat_map (line_of db number) rows) (lines-are db number rows)

cells-stored : (db : Database) (number : ℕ) (packets : List (List ℕ)) (moment : ℤ) (stored : List Stored) (counts : Counts) → IsGathered packets moment stored counts →
    cells_of_stored db number stored ≡ cells_of db number packets moment
cells-stored db number packets moment stored counts g =
    ap (λ (rows : List Row). filter_map (cell_of db number) rows) (sym (table-all stored g.shown) ∙ ap (table_of 0) g.rows_are) ∙ cells_are db number packets moment

text-by : (db : Database) (number : ℕ) (packets : List (List ℕ)) (moment : ℤ) (stored : List Stored) → cells_of_stored db number stored ≡ cells_of db number packets moment →
    lines_of_cells db number stored ≡ cell_lines db number (cells_of db number packets moment)
text-by db number packets moment stored e = lines-are db number (sorted (rows_of stored)) ∙ ap (cell_lines db number) e

no-end : (b : Bool) (reason : Why) (count : ℕ) → reason ≡ (if b then why.Truncated else why.Version) → end_of_cells reason count ≡ []
no-end true reason count e = rw e
no-end false reason count e = rw e

text-is : (db : Database) (number : ℕ) (packets : List (List ℕ)) (rest : List ℕ) (moment : ℤ) (stored : List Stored) (reason : Why) →
    cells_of_stored db number stored ≡ cells_of db number packets moment → reason ≡ why_of rest →
    text_of_cells db number stored reason ≡ values_text db number packets rest moment
text-is db number packets [] moment stored reason cells e =
    let end : end_of_cells reason (length (cells_of_stored db number stored)) ≡ values_line (length (cells_of db number packets moment)) =
    ap (λ (r : Why). end_of_cells r (length (cells_of_stored db number stored))) e ∙ ap (λ (c : List Cell). values_line (length c)) cells in
    ap (λ (more : List ℕ). lines_of_cells db number stored ++ more) end ∙
    ap (λ (lines : List ℕ). lines ++ values_line (length (cells_of db number packets moment))) (text-by db number packets moment stored cells)
text-is db number packets (octet ∷ rest) moment stored reason cells e =
    ap (λ (more : List ℕ). lines_of_cells db number stored ++ more) (no-end (nat_lt octet 32) reason (length (cells_of_stored db number stored)) e) ∙
    append-nil (lines_of_cells db number stored) ∙ text-by db number packets moment stored cells

-- what is printed of the rows of a dump is the text of its cells
pub text_of_rows : (db : Database) (number : ℕ) (dump : List ℕ) (packets : List (List ℕ)) (moment : ℤ) (received : Received DumpTable) → IsWholeDump dump packets received.end →
    IsGathered packets moment received.rows.table.stored received.rows.counts →
    text_of_cells db number received.rows.table.stored received.end.why ≡ values_text db number packets (drop received.end.at dump) moment
text_of_rows db number dump packets moment received r g =
    text-is db number packets (drop received.end.at dump) moment received.rows.table.stored received.end.why
    (cells-stored db number packets moment received.rows.table.stored received.rows.counts g) r.why
