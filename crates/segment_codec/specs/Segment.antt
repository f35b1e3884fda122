-- A segment: which there are, the one spelling of each, and its reading from left to right.
use Rattle.std.specs.Prelude.{◌≡◌, ℕ, ℤ, ◌^◌, ◌<◌, ◌≤◌, Bool, ◌&&◌, ◌==◌, nat_eq, nat_le, List, ◌++◌, length, drop}
use Rattle.std.specs.List.{flat_map, AllByRecursion, IsDistinct}
use Rattle.std.specs.List.Sorted.{IsStrictlySortedBy}
use Rattle.std.specs.Set.{distinct_count}
use Rattle.std.specs.Int.{w16}
use Rattle.octet_fields.specs.Reading.{Reader, both_at, counted_at, mapped_at, number_at, tested_at, times_at}
use Rattle.octet_fields.specs.Spelling.{counted, number}
use Rattle.arch_types.specs.declared.key.Key.{Key}
use Rattle.arch_types.specs.Order.{key_cmp}
use Rattle.segment_codec.specs.KeyColumn.{IsKey, key_column, keys_at}
use Rattle.segment_codec.specs.RawColumn.{IsRawColumn, raw_column, raw_column_at}
use Rattle.segment_codec.specs.declared.segment.Segment.{Segment}

-- the number of rows that a segment has at most
abbrev pub most_rows : ℕ
most_rows = 4096

-- parameters that differ, some rows whose keys rise, and a raw value of each parameter in each row
pub record IsSegment (s : Segment) : Type 0 where
  pub some_parameters : 1 ≤ length s.parameters
  pub few_parameters : length s.parameters < 2 ^ 16
  pub parameters : AllByRecursion (λ parameter. parameter < 2 ^ 16) s.parameters
  pub distinct : IsDistinct nat_eq s.parameters
  pub some_rows : 1 ≤ length s.keys
  pub few_rows : length s.keys ≤ most_rows
  pub key_fields : AllByRecursion IsKey s.keys
  pub rising : IsStrictlySortedBy key_cmp s.keys
  pub column_count : length s.columns ≡ length s.parameters
  pub columns : AllByRecursion (IsRawColumn (length s.keys)) s.columns

-- ---- the spelling

-- u16 count of the parameters and u16 each, u16 count of the rows, the key column, the raw columns
unfoldable pub segment_octets : Segment → List ℕ
segment_octets s = counted w16 (number w16) s.parameters ++ (number w16 (length s.keys) ++ (key_column s.keys ++ flat_map raw_column s.columns))

-- the spelling of a segment stands in octets from a place on
abbrev pub HasSegmentAt : List ℕ → ℕ → Segment → Type 0
HasSegmentAt octets at s = IsSegment s × (rest : List ℕ) × (drop at octets ≡ segment_octets s ++ rest)

-- ---- reading

-- no number comes twice, which is `IsDistinct`
abbrev pub are_distinct : List ℕ → Bool
are_distinct numbers = distinct_count nat_eq numbers == length numbers

-- some parameters, and none twice
abbrev pub are_parameters : List ℕ → Bool
are_parameters parameters = nat_le 1 (length parameters) && are_distinct parameters

-- reads the parameters
unfoldable pub parameters_at : Reader (List ℕ)
parameters_at = tested_at are_parameters (counted_at w16 (number_at w16))

-- a segment has some rows, and not too many
abbrev pub is_row_count : ℕ → Bool
is_row_count n = nat_le 1 n && nat_le n most_rows

-- reads the number of rows
unfoldable pub row_count_at : Reader ℕ
row_count_at = tested_at is_row_count (number_at w16)

-- the parameters, the number of rows, the keys, the raw columns
abbrev pub SegmentParts : Type 0
SegmentParts = List ℕ × (ℕ × (List Key × List (List ℤ)))

-- the segment of the parts that were read
abbrev pub segment_of_parts : SegmentParts → Segment
segment_of_parts p = record { parameters = p.0; keys = p.1.1.0; columns = p.1.1.1 }

-- reads a segment
unfoldable pub segment_at : Reader Segment
segment_at = mapped_at segment_of_parts (both_at parameters_at (λ parameters. both_at row_count_at (λ rows. both_at (keys_at rows) (λ _. times_at (raw_column_at rows) (length parameters)))))
