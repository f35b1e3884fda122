-- The answer over parts is that over the rows that they are over.
use Rattle.std.proofs.Common.{◌≡◌, ◌∙◌, ℕ, ℤ, List, [], ◌∷◌, ◌++◌, Bool, true, false, cond, Option, Some, None, ap, sym, refl}
use Rattle.std.specs.Prelude.{filter, flat_map, option_map}
use Rattle.std.specs.List.{cons_option, filter_map}
use Rattle.std.proofs.lemmas.List.Elements.{filter-append, filter_map-append}
use Rattle.asks.specs.declared.ask.Request.{Request}
use Rattle.arch_types.specs.declared.cell.Cell.{Cell}
use Rattle.arch_types.specs.declared.row.Row.{Row}
use Rattle.arch_types.specs.Table.{is_in_time_range, range_of}
use Rattle.mdb_items.specs.Database.{Database}
use Rattle.container_extract.specs.declared.values.ParameterValue.{ParameterValue}
use Rattle.container_extract.specs.Extraction.{cell_at, cell_of, extraction}
use Rattle.container_extract.specs.Values.{value_among}
use Rattle.container_extract.specs.Answer.{answer_of, as_asked}
use Rattle.param_segments.specs.CellRange.{is_cell_in_range}
use Rattle.param_segments.specs.declared.plan.Part.{Part}
use Rattle.param_segments.specs.declared.plan.Part.TheVariants.{Rows, Set}
use Rattle.param_segments.specs.Plans.{ArePartsOver, IsPartOver}
use Rattle.part_answers.specs.PartCells.{answer_over_parts, answer_over_rows, cells_of_part, cells_of_rows}

same_both : (b : Bool) (cells : List Cell) → cells ≡ cond b cells cells
same_both true cells = refl
same_both false cells = refl

-- a row's cell has the row's time
one_cell : (low high : ℤ) (row : Row) (value : Option ParameterValue) (cells : List Cell) →
    filter (is_cell_in_range low high) (cons_option (option_map (cell_at row.key) value) cells)
    ≡ cond (is_in_time_range low high row) (cons_option (option_map (cell_at row.key) value) (filter (is_cell_in_range low high) cells)) (filter (is_cell_in_range low high) cells)
one_cell low high row None cells = same_both (is_in_time_range low high row) (filter (is_cell_in_range low high) cells)
one_cell low high row (Some value) cells = refl

one_row : (db : Database) (q : ℕ) (row : Row) (rows : List Row) (b : Bool) →
    cond b (cons_option (cell_of db q row) (filter_map (cell_of db q) rows)) (filter_map (cell_of db q) rows) ≡ filter_map (cell_of db q) (cond b (row ∷ rows) rows)
one_row db q row rows true = refl
one_row db q row rows false = refl

-- the cells in a range of rows' cells are those of the rows in the range
pub timely_cells : (db : Database) (q : ℕ) (low high : ℤ) (rows : List Row) → filter (is_cell_in_range low high) (filter_map (cell_of db q) rows) ≡ cells_of_rows db q low high rows
timely_cells db q low high [] = refl
timely_cells db q low high (row ∷ rows) =
    one_cell low high row (value_among q (extraction db row.packet)) (filter_map (cell_of db q) rows)
    ∙ ap (λ (cells : List Cell). cond (is_in_time_range low high row) (cons_option (cell_of db q row) cells) cells) (timely_cells db q low high rows)
    ∙ one_row db q row (filter (is_in_time_range low high) rows) (is_in_time_range low high row)

part_over : (db : Database) (q : ℕ) (low high : ℤ) (part : Part) (rows : List Row) → IsPartOver db part rows → cells_of_part db q low high part ≡ cells_of_rows db q low high rows
part_over db q low high (Set interval set) rows over = ap (filter (is_cell_in_range low high)) (over q) ∙ timely_cells db q low high rows
part_over db q low high (Rows interval held) rows over = ap (cells_of_rows db q low high) over

pub joined : (db : Database) (q : ℕ) (low high : ℤ) (first behind : List Row) → cells_of_rows db q low high first ++ cells_of_rows db q low high behind ≡ cells_of_rows db q low high (first ++ behind)
joined db q low high first behind =
    let test = is_in_time_range low high in
    sym (ap (filter_map (cell_of db q)) (filter-append test first behind) ∙ filter_map-append (cell_of db q) (filter test first) (filter test behind))

parts_over : (db : Database) (q : ℕ) (low high : ℤ) (parts : List Part) (rows : List Row) → ArePartsOver db parts rows → flat_map (cells_of_part db q low high) parts ≡ cells_of_rows db q low high rows
parts_over db q low high [] rows over = ap (cells_of_rows db q low high) (sym over)
parts_over db q low high (part ∷ parts) rows over =
    let first = over.0 in
    let behind = over.1 in
    ap (λ (cells : List Cell). cells ++ flat_map (cells_of_part db q low high) parts) (part_over db q low high part first over.3)
    ∙ ap (λ (cells : List Cell). cells_of_rows db q low high first ++ cells) (parts_over db q low high parts behind over.4)
    ∙ joined db q low high first behind
    ∙ ap (cells_of_rows db q low high) (sym over.2)

-- the answers are the same
pub answer_over : (db : Database) (q : ℕ) (request : Request) (parts : List Part) (rows : List Row) → ArePartsOver db parts rows → answer_over_parts db q request parts ≡ answer_over_rows db q request rows
answer_over db q request parts rows over = ap (as_asked request) (parts_over db q request.from request.to parts rows over)

-- over rows of which those in the range are the history's, the answer is that over the history
pub answer_of_history : (db : Database) (q : ℕ) (request : Request) (rows history : List Row) →
    filter (is_in_time_range request.from request.to) rows ≡ range_of 0 request.from request.to history → answer_over_rows db q request rows ≡ answer_of db q request history
answer_of_history db q request rows history in_range = ap (λ (timely : List Row). as_asked request (filter_map (cell_of db q) timely)) in_range
