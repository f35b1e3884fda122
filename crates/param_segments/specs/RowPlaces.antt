-- Where rows stand in segments, and which segments a set of a database has.
use Rattle.std.specs.Prelude.{⊤, ◌≡◌, ℕ, ℤ, pos, ◌+◌, ◌<◌, Bool, true, nat_lt, List, [], ◌∷◌, ◌++◌, length, map, slice_index_or}
use Rattle.std.specs.List.{AllByRecursion, list_all}
use Rattle.std.specs.Ordering.{is_lt}
use Rattle.arch_types.specs.declared.key.Key.{Key}
use Rattle.arch_types.specs.Order.{key_cmp}
use Rattle.intervals.specs.Interval.{interval_of}
use Rattle.container_extract.specs.declared.values.RawValue.{RawValue}
use Rattle.container_extract.specs.Values.{IsRawValue}
use Rattle.mdb_items.specs.Database.{Database}
use Rattle.segment_codec.specs.KeyColumn.{IsKey}
use Rattle.segment_codec.specs.Segment.{IsSegment}
use Rattle.segment_codec.specs.declared.column_range.ColumnRange.{ColumnRange}
use Rattle.segment_codec.specs.declared.segment.Segment.{Segment}
use Rattle.param_segments.specs.declared.key_place.KeyPlace.{KeyPlace}
use Rattle.param_segments.specs.Groups.{segment_of}
use Rattle.param_segments.specs.Rows.{SetRow, set_row}
use Rattle.param_segments.specs.Segments.{values_from}

-- ---- parameters

-- a parameter is one of the database
abbrev pub is_known_parameter : Database → ℕ → Bool
is_known_parameter db parameter = nat_lt parameter (length db.parameters)

-- each parameter is one of the database
abbrev pub are_known_parameters : Database → List ℕ → Bool
are_known_parameters db parameters = list_all (is_known_parameter db) parameters

-- a segment of parameters of the database
abbrev pub IsKnownSegment : Database → Segment → Type 0
IsKnownSegment db s = IsSegment s × (are_known_parameters db s.parameters ≡ true)

-- ---- columns

-- each raw number of a column is one of a parameter of the database, of the parameter's width
abbrev pub IsColumnOf : Database → ℕ → List ℤ → Type 0
IsColumnOf db parameter column = AllByRecursion (λ raw. IsRawValue db (record { parameter = parameter; raw = raw })) column

-- each column is one of its parameter
abbrev pub AreColumnsOf : Database → List ℕ → List (List ℤ) → Type 0
AreColumnsOf db [] columns = ⊤
AreColumnsOf db (p ∷ ps) [] = ⊤
AreColumnsOf db (p ∷ ps) (c ∷ cs) = IsColumnOf db p c × AreColumnsOf db ps cs

-- the ends of a column's range are raw numbers of a parameter of the database, of the parameter's width
abbrev pub IsRangeOf : Database → ℕ → ColumnRange → Type 0
IsRangeOf db parameter range =
    IsRawValue db (record { parameter = parameter; raw = range.least })
    × IsRawValue db (record { parameter = parameter; raw = range.greatest })

-- each range is one of its parameter
abbrev pub AreRangesOf : Database → List ℕ → List ColumnRange → Type 0
AreRangesOf db [] ranges = ⊤
AreRangesOf db (p ∷ ps) [] = ⊤
AreRangesOf db (p ∷ ps) (r ∷ rs) = IsRangeOf db p r × AreRangesOf db ps rs

-- a segment of values of the database
abbrev pub IsSegmentOf : Database → Segment → Type 0
IsSegmentOf db s = AreColumnsOf db s.parameters s.columns

-- ---- places

-- the place of a row in segments, and its key
pub record RowPlace : Type 0 where
  pub key : Key
  pub segment : ℕ
  pub row : ℕ

-- a column's raw number in a row
abbrev pub raw_in_row : ℕ → List ℤ → ℤ
raw_in_row row column = slice_index_or column row (pos 0)

-- the values of parameters in a row of their columns
abbrev pub values_in_row : ℕ → List ℕ → List (List ℤ) → List RawValue
values_in_row row parameters columns = values_from parameters (map (raw_in_row row) columns)

-- the segment with a number
abbrev pub numbered_segment : List Segment → ℕ → Segment
numbered_segment segments number = slice_index_or segments number (segment_of [] [])

-- the row of segments at a place
abbrev pub placed_row : List Segment → RowPlace → SetRow
placed_row segments p = set_row p.key (values_in_row p.row (numbered_segment segments p.segment).parameters (numbered_segment segments p.segment).columns)

-- the places of a segment's rows, from a row on
abbrev pub places_in_segment : ℕ → ℕ → List Key → List RowPlace
places_in_segment number row [] = []
places_in_segment number row (key ∷ keys) = record { key = key; segment = number; row = row } ∷ places_in_segment number (row + 1) keys

-- the places of the rows of segments, from a number on
abbrev pub places_from : ℕ → List Segment → List RowPlace
places_from number [] = []
places_from number (s ∷ segments) = places_in_segment number 0 s.keys ++ places_from (number + 1) segments

-- a place of a row in segments: there is such a row, and the key is one
pub record IsRowPlace (segments : List Segment) (p : RowPlace) : Type 0 where
  pub key : IsKey p.key
  pub segment : p.segment < length segments
  pub row : p.row < length (numbered_segment segments p.segment).keys

-- ---- keys, and the segments of their rows

-- the key at a place
abbrev pub place_key : KeyPlace → Key
place_key p = record { time = p.time; seq = p.seq }

-- a place's key is below another's
abbrev pub is_key_earlier : KeyPlace → KeyPlace → Bool
is_key_earlier a b = is_lt (key_cmp (place_key a) (place_key b))

-- a key of the segment with a number
abbrev pub key_in : ℕ → Key → KeyPlace
key_in number key = record { time = key.time; seq = key.seq; segment = number }

-- the keys of segments, from a number on
abbrev pub key_places : ℕ → List Segment → List KeyPlace
key_places number [] = []
key_places number (s ∷ segments) = map (key_in number) s.keys ++ key_places (number + 1) segments

-- ---- times

-- each row's time lies in an interval
abbrev pub IsInside : ℕ → ℤ → Segment → Type 0
IsInside exponent interval s = AllByRecursion (λ key. interval_of exponent key.time ≡ interval) s.keys
