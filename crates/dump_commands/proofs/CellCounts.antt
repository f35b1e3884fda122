-- How many cells rows have.
use Rattle.std.proofs.Common.{◌≡◌, ◌+◌, ◌≤◌, ◌<◌, ℕ, ℤ, List, [], ◌∷◌, length, Option, Some, None, ap, arith}
use Rattle.std.specs.Prelude.{◌^◌}
use Rattle.std.specs.List.{cons_option, filter_map}
use Rattle.arch_types.specs.declared.cell.Cell.{Cell}
use Rattle.arch_types.specs.declared.row.Row.{Row}
use Rattle.arch_types.specs.Table.{sorted}
use Rattle.mdb_items.specs.Database.{Database}
use Rattle.container_extract.specs.Extraction.{cell_of}
use Rattle.yarch_table.specs.Stored.{rows_of}
use Rattle.dump_lines.specs.declared.receiving.Received.{Received}
use Rattle.dump_lines.specs.declared.table.DumpTable.{DumpTable}
use Rattle.dump_lines.specs.DumpTable.{IsGathered}
use Rattle.dump_pieces.specs.Reading.{IsWholeDump}
use Rattle.retrieval.proofs.Replays.{length-order}
use Rattle.dump_commands.specs.ValuesPrinting.{count_if, cells_in_row}
use Rattle.command_runs.specs.DumpRest.{dump_limit}

count-cases : (o : Option Cell) (cells : List Cell) → length (cons_option o cells) ≡ count_if o + length cells
count-cases None cells = omega arith
count-cases (Some cell) cells = omega arith

-- the cells of a row, and of others
pub count_next : (db : Database) (number : ℕ) (row : Row) (rows : List Row) →
    length (filter_map (cell_of db number) (row ∷ rows)) ≡ cells_in_row db number row + length (filter_map (cell_of db number) rows)
unfolding cells_in_row
count_next db number row rows = count-cases (cell_of db number row) (filter_map (cell_of db number) rows)

few-cases : (o : Option Cell) (cells : List Cell) (n : ℕ) → length cells ≤ n → length (cons_option o cells) ≤ n + 1
few-cases None cells n h = omega arith
few-cases (Some cell) cells n h = omega arith

-- there are at most as many cells as rows
pub cells_few : (db : Database) (number : ℕ) (rows : List Row) → length (filter_map (cell_of db number) rows) ≤ length rows
cells_few db number [] = omega arith
cells_few db number (row ∷ rows) =
    let few = few-cases (cell_of db number row) (filter_map (cell_of db number) rows) (length rows) (cells_few db number rows) in
    omega (arith, few)

-- the rows of a dump are few
pub rows_few : (dump : List ℕ) (packets : List (List ℕ)) (moment : ℤ) (received : Received DumpTable) → IsWholeDump dump packets received.end →
    IsGathered packets moment received.rows.table.stored received.rows.counts → length dump ≤ dump_limit → length (sorted (rows_of received.rows.table.stored)) < 2 ^ 64
rows_few dump packets moment received r g short =
    let counts = g.counted in
    let of_rows = counts.of_rows in
    let of_duplicates = counts.of_duplicates in
    let of_idle = counts.of_idle in
    let few = r.few in
    let order = length-order [] (rows_of received.rows.table.stored) in
    let rows = ap (λ (rows : List Row). length rows) g.rows_are in
    omega (arith, order, rows, of_rows, of_duplicates, of_idle, few, short)
