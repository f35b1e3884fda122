-- What a segment has of a parameter in a range of times.
use Rattle.std.specs.Prelude.{◌≡◌, ◌<ℤ◌, ◌+ℤ◌, ◌*ℤ◌, ◌-◌, ◌^◌, ℕ, ℤ, pos, Bool, not, ◌&&◌, int_lt, List, ◌++◌, length, take, drop, filter, min, Option, None, Some, option_map}
use Rattle.std.specs.List.{AllByRecursion}
use Rattle.octet_fields.specs.Reading.{◌>>=◌}
use Rattle.arch_types.specs.Directions.{in_direction, truncated}
use Rattle.arch_types.specs.declared.direction.Direction.{Direction}
use Rattle.arch_types.specs.declared.direction.Direction.TheVariants.{Ascending, Descending}
use Rattle.arch_types.specs.declared.key.Key.{Key}
use Rattle.segment_codec.specs.KeyColumn.{key_number, keys_after_at}
use Rattle.segment_codec.specs.OneColumn.{column_in, column_of_parts}
use Rattle.segment_codec.specs.declared.one_column.ParameterColumn.{ParameterColumn}
use Rattle.segment_codec.specs.declared.range_column.KeysInRange.{KeysInRange}
use Rattle.segment_codec.specs.declared.segment.Segment.{Segment}

-- whether a key's time lies in a half-open range
abbrev pub is_key_in_range : ℤ → ℤ → Key → Bool
is_key_in_range low high key = not (int_lt key.time low) && int_lt key.time high

-- how many keys are before a time
abbrev pub keys_before : ℤ → List Key → ℕ
keys_before time keys = length (filter (λ key. int_lt key.time time) keys)

-- the rows of a column in a range of times, which follow one another: keys rise
abbrev pub rows_in_range : ℤ → ℤ → ParameterColumn → ParameterColumn
rows_in_range low high c =
    let keys = filter (is_key_in_range low high) c.keys in
    column_of_parts keys (take (length keys) (drop (keys_before low c.keys) c.values))

-- the first so many items in a direction, in their own order; all where there's no limit
abbrev pub first_in : {X : Type 0} → Direction → Option ℕ → List X → List X
first_in direction limit xs = in_direction direction (truncated limit (in_direction direction xs))

-- the first so many rows of a column in a direction
abbrev pub first_rows : Direction → Option ℕ → ParameterColumn → ParameterColumn
first_rows direction limit c = column_of_parts (first_in direction limit c.keys) (first_in direction limit c.values)

-- those of a range of times
abbrev pub asked_rows : ℤ → ℤ → Direction → Option ℕ → ParameterColumn → ParameterColumn
asked_rows low high direction limit c = first_rows direction limit (rows_in_range low high c)

-- the column of a parameter in a range of times, the first so many rows of it in a direction, where the segment has the parameter
abbrev pub asked_column : ℕ → ℤ → ℤ → Direction → Option ℕ → Segment → Option ParameterColumn
asked_column parameter low high direction limit s = option_map (asked_rows low high direction limit) (column_in parameter s)

-- ---- reading

-- the keys of a range among keys, and how many are before it
pub record IsSpanOf (low high : ℤ) (keys : List Key) (span : KeysInRange) : Type 0 where
  pub before : span.before ≡ keys_before low keys
  pub inside : span.keys ≡ filter (is_key_in_range low high) keys

-- a time begins so far behind a key
abbrev pub IsGapTo : ℤ → Key → ℕ → Type 0
IsGapTo time key gap = key_number key +ℤ pos gap ≡ time *ℤ pos (2 ^ 32)

-- of the keys that are read, the first so many are before a time, and the others are read behind them
abbrev pub ArePassed : ℤ → ℕ → Option (List Key × List ℕ) → Option (List Key × List ℕ) → Type 0
ArePassed time count all others = (front : List Key) × (length front ≡ count)
    × AllByRecursion (λ key. key.time <ℤ time) front × (all ≡ (others >>= λ read. Some (front ++ read.0, read.1)))

-- of so many rows, how many are asked
abbrev pub count_in : Option ℕ → ℕ → ℕ
count_in None rows = rows
count_in (Some limit) rows = min limit rows

-- how many of them stand before those that are asked
abbrev pub start_in : Direction → ℕ → ℕ → ℕ
start_in Ascending rows count = 0
start_in Descending rows count = rows - count

-- so many keys, each behind the one before, stand at the front, and behind them these octets
abbrev pub AreKeysUpTo : ℕ → List ℕ → List ℕ → Type 0
AreKeysUpTo count octets after =
    (last : Key) × (keys : List Key) × (keys_after_at count last octets ≡ Some (keys, after))
