-- The segments of rows: group by group, and in a group piece by piece.
use Rattle.std.specs.Prelude.{ℕ, ℤ, ◌==◌, nat_eq, Bool, List, [], ◌∷◌, ◌++◌, length, map, filter, flat_map, fold, replicate, if◌then◌else◌}
use Rattle.std.specs.List.{list_any}
use lib.Pointwise.{pointwise}
use Rattle.segment_codec.specs.declared.segment.Segment.{Segment}
use Rattle.param_segments.specs.Rows.{SetRow, row_parameters, row_raws}

-- ---- groups

-- a row is of a group: the list of its values' parameters
abbrev pub is_of_group : List ℕ → SetRow → Bool
is_of_group group row = pointwise nat_eq (row_parameters row) group

-- a group more at the end, where it's new
abbrev pub with_group : List (List ℕ) → List ℕ → List (List ℕ)
with_group groups group = if list_any (pointwise nat_eq group) groups then groups else groups ++ group ∷ []

-- the groups of rows, in the order of their first rows
abbrev pub groups_of : List SetRow → List (List ℕ)
groups_of rows = fold with_group [] (map row_parameters rows)

-- ---- pieces

-- rows of a group: pieces of 4,096, and the rows behind them
pub record Pieces : Type 0 where
  pub full : List (List SetRow)
  pub last : List SetRow

-- a row more: a piece is full at 4,096 rows
abbrev pub with_next_row : Pieces → SetRow → Pieces
with_next_row p row = if length p.last == 4096 then record { full = p.full ++ p.last ∷ []; last = row ∷ [] } else record { full = p.full; last = p.last ++ row ∷ [] }

-- rows of a group in pieces
abbrev pub cut_rows : List SetRow → Pieces
cut_rows rows = fold with_next_row (record { full = []; last = [] }) rows

-- the pieces: each but the last has 4,096 rows
abbrev pub row_pieces : List SetRow → List (List SetRow)
row_pieces rows = (cut_rows rows).full ++ (cut_rows rows).last ∷ []

-- ---- segments

-- a raw number more at the front of each column
abbrev pub with_raws : List ℤ → List (List ℤ) → List (List ℤ)
with_raws [] columns = []
with_raws (raw ∷ raws) [] = []
with_raws (raw ∷ raws) (column ∷ columns) = (raw ∷ column) ∷ with_raws raws columns

-- the raw columns of rows, one for each of so many parameters
abbrev pub raw_columns : ℕ → List SetRow → List (List ℤ)
raw_columns width [] = replicate width []
raw_columns width (row ∷ rows) = with_raws (row_raws row) (raw_columns width rows)

-- the segment of rows of a group
abbrev pub segment_of : List ℕ → List SetRow → Segment
segment_of group rows = record { parameters = group; keys = map (λ row. row.key) rows; columns = raw_columns (length group) rows }

-- the segments of the rows of a group
abbrev pub group_segments : List SetRow → List ℕ → List Segment
group_segments rows group = map (segment_of group) (row_pieces (filter (is_of_group group) rows))

-- the segments of rows
abbrev pub set_of : List SetRow → List Segment
set_of rows = flat_map (group_segments rows) (groups_of rows)
