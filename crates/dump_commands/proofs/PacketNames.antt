-- The cells of rows are the same whatever their packet names are.
use Rattle.std.proofs.Common.{◌≡◌, ◌∙◌, ℕ, ℤ, List, [], ◌∷◌, ◌++◌, map, true, false, Bool, cond, ap, sym, refl}
use Rattle.std.specs.Prelude.{flat_map, filter, fold, if◌then◌else◌}
use Rattle.std.specs.List.{filter_map, list_any, cons_option}
use Rattle.arch_types.specs.declared.cell.Cell.{Cell}
use Rattle.arch_types.specs.declared.row.Row.{Row}
use Rattle.arch_types.specs.Arrivals.{row_of, kept}
use Rattle.arch_types.specs.History.{is_duplicate_of, is_in_table, with_row, ingested, firsts}
use Rattle.arch_types.specs.Order.{is_before, place_by}
use Rattle.arch_types.specs.Table.{sorted, table_of}
use Rattle.mdb_items.specs.Database.{Database}
use Rattle.container_extract.specs.Chain.{packet_name_of}
use Rattle.container_extract.specs.Extraction.{cell_of}
use Rattle.dump_lines.specs.Text.{scanned_rows}
use Rattle.retrieval.specs.ValuesText.{named_rows, cells_of}

-- a row with the packet name 0
abbrev unnamed : Row → Row
unnamed row = record row { pname = 0 }

rows-unnamed : (moment : ℤ) (name : List ℕ → ℕ) (packets : List (List ℕ)) →
    flat_map (λ p. map (row_of 1 moment (λ q. 0) p) (0 ∷ [])) packets ≡ map unnamed (flat_map (λ p. map (row_of 1 moment name p) (0 ∷ [])) packets)
rows-unnamed moment name [] = refl
rows-unnamed moment name (p ∷ packets) = ap (λ (rows : List Row). row_of 1 moment (λ q. 0) p 0 ∷ rows) (rows-unnamed moment name packets)

duplicate-unnamed : (row : Row) (history : List Row) → list_any (is_duplicate_of (unnamed row)) (map unnamed history) ≡ list_any (is_duplicate_of row) history
duplicate-unnamed row [] = refl
duplicate-unnamed row (r ∷ history) = rw (duplicate-unnamed row history) refl

map-push : (rows : List Row) (row : Row) → map unnamed (rows ++ row ∷ []) ≡ map unnamed rows ++ unnamed row ∷ []
map-push [] row = refl
map-push (r ∷ rows) row = ap (λ (more : List Row). unnamed r ∷ more) (map-push rows row)

with_row-cases : (b : Bool) (history : List Row) (row : Row) →
    (if b then map unnamed history else map unnamed history ++ unnamed row ∷ []) ≡ map unnamed (if b then history else history ++ row ∷ [])
with_row-cases true history row = refl
with_row-cases false history row = sym (map-push history row)

with_row-unnamed : (history : List Row) (row : Row) → with_row (map unnamed history) (unnamed row) ≡ map unnamed (with_row history row)
with_row-unnamed history row = rw (duplicate-unnamed row history) (with_row-cases (list_any (is_duplicate_of row) history) history row)

ingested-unnamed : (history rows : List Row) → ingested (map unnamed history) (map unnamed rows) ≡ map unnamed (ingested history rows)
ingested-unnamed history [] = refl
ingested-unnamed history (row ∷ rows) =
    ap (λ (h : List Row). ingested h (map unnamed rows)) (with_row-unnamed history row) ∙ ingested-unnamed (with_row history row) rows

in_table-cases : (b : Bool) (row : Row) (rows kept : List Row) → rows ≡ map unnamed kept → cond b (unnamed row ∷ rows) rows ≡ map unnamed (cond b (row ∷ kept) kept)
in_table-cases true row rows kept e = ap (λ (more : List Row). unnamed row ∷ more) e
in_table-cases false row rows kept e = e

in_table-unnamed : (rows : List Row) → filter (is_in_table 0) (map unnamed rows) ≡ map unnamed (filter (is_in_table 0) rows)
in_table-unnamed [] = refl
in_table-unnamed (row ∷ rows) =
    in_table-cases (is_in_table 0 row) row (filter (is_in_table 0) (map unnamed rows)) (filter (is_in_table 0) rows) (in_table-unnamed rows)

place-cases : (b : Bool) (row first : Row) (rows placed kept : List Row) → placed ≡ map unnamed kept →
    (if b then unnamed row ∷ unnamed first ∷ map unnamed rows else unnamed first ∷ placed) ≡ map unnamed (if b then row ∷ first ∷ rows else first ∷ kept)
place-cases true row first rows placed kept e = refl
place-cases false row first rows placed kept e = ap (λ (more : List Row). unnamed first ∷ more) e

place-unnamed : (rows : List Row) (row : Row) → place_by is_before (map unnamed rows) (unnamed row) ≡ map unnamed (place_by is_before rows row)
place-unnamed [] row = refl
place-unnamed (first ∷ rows) row =
    place-cases (is_before row first) row first rows (place_by is_before (map unnamed rows) (unnamed row)) (place_by is_before rows row) (place-unnamed rows row)

order-unnamed : (done rows : List Row) → fold (place_by is_before) (map unnamed done) (map unnamed rows) ≡ map unnamed (fold (place_by is_before) done rows)
order-unnamed done [] = refl
order-unnamed done (row ∷ rows) =
    ap (λ (placed : List Row). fold (place_by is_before) placed (map unnamed rows)) (place-unnamed done row) ∙ order-unnamed (place_by is_before done row) rows

table-unnamed : (history : List Row) → table_of 0 (map unnamed history) ≡ map unnamed (table_of 0 history)
table-unnamed history = ap sorted (in_table-unnamed history) ∙ order-unnamed [] (filter (is_in_table 0) history)

cells-unnamed : (db : Database) (number : ℕ) (rows : List Row) → filter_map (cell_of db number) (map unnamed rows) ≡ filter_map (cell_of db number) rows
cells-unnamed db number [] = refl
cells-unnamed db number (row ∷ rows) = ap (λ (cells : List Cell). cons_option (cell_of db number row) cells) (cells-unnamed db number rows)

-- the rows that `scan` and `values` gather have the packet name 0, and the same cells as those that the database names
pub cells_are : (db : Database) (number : ℕ) (packets : List (List ℕ)) (moment : ℤ) →
    filter_map (cell_of db number) (table_of 0 (firsts (scanned_rows packets moment))) ≡ cells_of db number packets moment
cells_are db number packets moment =
    let rows = named_rows db packets moment in
    let first : firsts (scanned_rows packets moment) ≡ map unnamed (firsts rows) =
    ap firsts (rows-unnamed moment (packet_name_of db) (kept packets)) ∙ ingested-unnamed [] rows in
    ap (λ (history : List Row). filter_map (cell_of db number) (table_of 0 history)) first ∙
    ap (λ (table : List Row). filter_map (cell_of db number) table) (table-unnamed (firsts rows)) ∙ cells-unnamed db number (table_of 0 (firsts rows))
