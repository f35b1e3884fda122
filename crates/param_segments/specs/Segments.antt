-- The rows of segments.
use Rattle.std.specs.Prelude.{ℕ, ℤ, pos, List, [], ◌∷◌, map, flat_map}
use Rattle.arch_types.specs.declared.key.Key.{Key}
use Rattle.arch_types.specs.Order.{order_by}
use Rattle.container_extract.specs.declared.values.RawValue.{RawValue}
use Rattle.segment_codec.specs.declared.segment.Segment.{Segment}
use Rattle.param_segments.specs.Rows.{SetRow, is_earlier}

-- the first raw number of a column
abbrev pub column_head : List ℤ → ℤ
column_head [] = pos 0
column_head (raw ∷ raws) = raw

-- the raw numbers after it
abbrev pub column_tail : List ℤ → List ℤ
column_tail [] = []
column_tail (raw ∷ raws) = raws

-- the values of parameters
abbrev pub values_from : List ℕ → List ℤ → List RawValue
values_from [] raws = []
values_from (p ∷ ps) [] = []
values_from (p ∷ ps) (raw ∷ raws) = record { parameter = p; raw = raw } ∷ values_from ps raws

-- the rows of keys and columns: at each key the next raw number of each column
abbrev pub rows_from : List ℕ → List Key → List (List ℤ) → List SetRow
rows_from parameters [] columns = []
rows_from parameters (key ∷ keys) columns = record { key = key; values = values_from parameters (map column_head columns) } ∷ rows_from parameters keys (map column_tail columns)

-- the rows of a segment
abbrev pub rows_of_segment : Segment → List SetRow
rows_of_segment s = rows_from s.parameters s.keys s.columns

-- the rows of segments, merged by their keys
abbrev pub rows_of_segments : List Segment → List SetRow
rows_of_segments segments = order_by is_earlier (flat_map rows_of_segment segments)
