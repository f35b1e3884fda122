-- What of a segment tells whether it may stand in a set.
use Rattle.std.specs.Prelude.{◌≡◌, ◌==◌, ◌+ℤ◌, ℕ, ℤ, pos, List, [], ◌∷◌, length, fold, map, IfSome, Option, Some, None}
use Rattle.std.specs.Int.{w8, w16, int_max, int_min}
use Rattle.std.specs.List.{list_any}
use Rattle.octet_fields.specs.Reading.{Reader, ◌>>=◌, both_at, counted_at, mapped_at, number_at, tested_at, times_at}
use Rattle.arch_types.specs.declared.key.Key.{Key}
use Rattle.segment_codec.specs.Bits.{packed_at}
use Rattle.segment_codec.specs.KeyColumn.{keys_at}
use Rattle.segment_codec.specs.RawColumn.{greatest, is_tight, is_width, raw_column_at}
use Rattle.segment_codec.specs.Segment.{HasSegmentAt, parameters_at, row_count_at, segment_at}
use Rattle.segment_codec.specs.declared.column_range.ColumnRange.{ColumnRange}
use Rattle.segment_codec.specs.declared.column_range.Scanned.{Scanned}
use Rattle.segment_codec.specs.declared.key_column.KeyEnds.{KeyEnds}
use Rattle.segment_codec.specs.declared.outline.OutlineParts.{OutlineParts}
use Rattle.segment_codec.specs.declared.segment.Segment.{Segment}

-- the values from one to another
abbrev pub value_range : ℤ → ℤ → ColumnRange
value_range least most = record { least = least; greatest = most }

-- from the least of values to the greatest
abbrev pub range_of : List ℤ → ColumnRange
range_of [] = value_range (pos 0) (pos 0)
range_of (value ∷ values) = value_range (fold int_min value values) (fold int_max value values)

-- the first of keys
abbrev pub first_of : List Key → Key
first_of [] = record { time = pos 0; seq = 0 }
first_of (key ∷ keys) = key

-- the last of keys
abbrev pub last_of : List Key → Key
last_of [] = record { time = pos 0; seq = 0 }
last_of (key ∷ []) = key
last_of (key ∷ next ∷ keys) = last_of (next ∷ keys)

-- the first of keys, and the last
abbrev pub key_ends : List Key → KeyEnds
key_ends keys = record { first = first_of keys; last = last_of keys }

-- parameters, the number of rows, the ends of the keys, and ranges
abbrev pub outline : List ℕ → ℕ → KeyEnds → List ColumnRange → OutlineParts
outline parameters rows ends ranges = record { parameters = parameters; rows = rows; ends = ends; ranges = ranges }

-- the parameters and the ends of the keys of a segment, and the range of each column
abbrev pub outline_of : Segment → OutlineParts
outline_of s = outline s.parameters (length s.keys) (key_ends s.keys) (map range_of s.columns)

-- the segment that was read, or one without rows
abbrev pub segment_read : Option (Segment × List ℕ) → Segment
segment_read None = record { parameters = []; keys = []; columns = [] }
segment_read (Some read) = read.0

-- the segment that stands at the front of octets
abbrev pub front_segment : List ℕ → Segment
front_segment octets = segment_read (segment_at octets)

-- a segment stands at the front of octets, this is its outline, and these are its keys, where they were kept
pub record IsOutlineOf (x : OutlineParts) (kept : Option (List Key)) (octets : List ℕ) : Type 0 where
  pub parts : x ≡ outline_of (front_segment octets)
  pub keys : IfSome kept (λ ks. ks ≡ (front_segment octets).keys)
  pub stands : HasSegmentAt octets 0 (front_segment octets)

-- ---- reading

-- the keys of the segment that stands at the front
unfoldable pub keys_of : List ℕ → Option (List Key)
keys_of octets =
    counted_at w16 (number_at w16) octets >>= λ parameters. row_count_at parameters.1 >>= λ rows. keys_at rows.0 rows.1 >>= λ keys. Some keys.0

-- the greatest of differences, and whether one is 0
abbrev pub scanned : List ℕ → Scanned
scanned offsets = record { top = greatest offsets; has_zero = list_any (λ d. d == 0) offsets }

-- reads the range of a raw column
unfoldable pub range_at : ℕ → Reader ColumnRange
range_at rows = mapped_at range_of (raw_column_at rows)

-- reads the range of a column of form 1 behind its least value
unfoldable pub varied_range_at : ℕ → ℤ → Reader ColumnRange
varied_range_at rows low =
    mapped_at (λ p. value_range low (low +ℤ pos (greatest p.1)))
    (tested_at (λ p. is_tight (low, p)) (both_at (tested_at is_width (number_at w8)) (λ width. packed_at width rows)))

-- reads the outline of a segment, and its keys
unfoldable pub outline_at : Reader (OutlineParts × List Key)
outline_at octets =
    parameters_at octets >>= λ parameters. row_count_at parameters.1 >>= λ rows. keys_at rows.0 rows.1 >>= λ keys.
    times_at (range_at rows.0) (length parameters.0) keys.1 >>= λ ranges.
    Some ((outline parameters.0 rows.0 (key_ends keys.0) ranges.0, keys.0), ranges.1)
