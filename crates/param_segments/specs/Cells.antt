-- The cells of a parameter in rows of a set.
use Rattle.std.specs.Prelude.{ℕ, ℤ, Bool, List, [], ◌∷◌, Option, Some, None, option_map}
use Rattle.std.specs.List.{AllByRecursion, filter_map}
use Rattle.arch_types.specs.declared.cell.Cell.{Cell}
use Rattle.arch_types.specs.declared.key.Key.{Key}
use Rattle.std.specs.Ordering.{is_lt}
use Rattle.arch_types.specs.Order.{key_cmp}
use Rattle.mdb_items.specs.Database.{Database}
use Rattle.container_extract.specs.declared.values.RawValue.{RawValue}
use Rattle.container_extract.specs.Extraction.{cell_at}
use Rattle.container_extract.specs.Values.{IsRawValue, calibrated_value, raw_among}
use Rattle.segment_codec.specs.OneColumn.{column_in}
use Rattle.segment_codec.specs.declared.one_column.ParameterColumn.{ParameterColumn}
use Rattle.segment_codec.specs.declared.segment.Segment.{Segment}
use Rattle.param_segments.specs.declared.raw_cell.RawCell.{RawCell}
use Rattle.param_segments.specs.Rows.{SetRow}

-- each value is that of a parameter of the database, its raw number of the parameter's width
abbrev pub AreValuesOf : Database → List SetRow → Type 0
AreValuesOf db rows = AllByRecursion (λ row. AllByRecursion (IsRawValue db) row.values) rows

-- a raw value as a cell at a key
abbrev pub set_cell_at : Database → Key → RawValue → Cell
set_cell_at db key v = cell_at key (calibrated_value db v)

-- the cell of a parameter in a row, where it has one
abbrev pub set_cell : Database → ℕ → SetRow → Option Cell
set_cell db q row = option_map (set_cell_at db row.key) (raw_among q row.values)

-- the cells of a parameter in rows
abbrev pub set_cells : Database → ℕ → List SetRow → List Cell
set_cells db q rows = filter_map (set_cell db q) rows

-- a cell's key is below another's
abbrev pub is_cell_before : Cell → Cell → Bool
is_cell_before a b = is_lt (key_cmp a.key b.key)

-- ---- before they are calibrated

-- a raw value at a key
abbrev pub raw_cell : Key → RawValue → RawCell
raw_cell key v = record { key = key; raw = v.raw }

-- the raw cell of a parameter in a row, where it has one
abbrev pub raw_cell_of : ℕ → SetRow → Option RawCell
raw_cell_of q row = option_map (raw_cell row.key) (raw_among q row.values)

-- the raw cells of a parameter in rows
abbrev pub set_raw_cells : ℕ → List SetRow → List RawCell
set_raw_cells q rows = filter_map (raw_cell_of q) rows

-- the raw value of a raw cell of a parameter
abbrev pub raw_value_of_cell : ℕ → RawCell → RawValue
raw_value_of_cell q c = record { parameter = q; raw = c.raw }

-- a raw cell of a parameter, calibrated
abbrev pub with_eng : Database → ℕ → RawCell → Cell
with_eng db q c = set_cell_at db c.key (raw_value_of_cell q c)

-- a raw cell's key is below another's
abbrev pub is_cell_earlier : RawCell → RawCell → Bool
is_cell_earlier a b = is_lt (key_cmp a.key b.key)

-- each raw number at its key
abbrev pub cells_from : List Key → List ℤ → List RawCell
cells_from [] raws = []
cells_from (key ∷ keys) [] = []
cells_from (key ∷ keys) (raw ∷ raws) = record { key = key; raw = raw } ∷ cells_from keys raws

-- the raw cells of a column, where there is one
abbrev pub column_cells : Option ParameterColumn → List RawCell
column_cells None = []
column_cells (Some column) = cells_from column.keys column.values

-- the raw cells of a parameter in a segment
abbrev pub segment_cells : ℕ → Segment → List RawCell
segment_cells q s = column_cells (column_in q s)
