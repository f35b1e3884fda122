-- One column of a segment, the others passed over by their lengths.
use Rattle.std.specs.Prelude.{ℕ, zero, suc, ℤ, ◌*◌, ◌==◌, List, [], Option, Some, None, option_map, slice_index_or, if◌then◌else◌}
use Rattle.std.specs.Int.{w8, w16}
use Rattle.std.specs.List.{position}
use Rattle.octet_fields.specs.Reading.{◌>>=◌, counted_at, number_at, octets_at}
use Rattle.arch_types.specs.declared.key.Key.{Key}
use Rattle.segment_codec.specs.Bits.{octet_count}
use Rattle.segment_codec.specs.KeyColumn.{keys_at}
use Rattle.segment_codec.specs.RawColumn.{raw_column_at}
use Rattle.segment_codec.specs.Segment.{row_count_at}
use Rattle.segment_codec.specs.declared.one_column.ParameterColumn.{ParameterColumn}
use Rattle.segment_codec.specs.declared.segment.Segment.{Segment}

-- keys, and a value at each
abbrev pub column_of_parts : List Key → List ℤ → ParameterColumn
column_of_parts keys values = record { keys = keys; values = values }

-- the keys of a segment, and its column at a place
abbrev pub column_there : Segment → ℕ → ParameterColumn
column_there s place = column_of_parts s.keys (slice_index_or s.columns place [])

-- the keys of a segment, and its column of a parameter, where it has one
abbrev pub column_in : ℕ → Segment → Option ParameterColumn
column_in parameter s = option_map (column_there s) (position (λ p. p == parameter) s.parameters)

-- ---- reading

-- the octets after a column: behind a value, or behind the least value, the width and the differences
unfoldable pub column_end : ℕ → List ℕ → Option (List ℕ)
column_end rows octets =
    number_at w8 octets >>= λ form. octets_at 16 form.1 >>= λ value.
    if form.0 == 0 then Some value.1 else (number_at w8 value.1 >>= λ width. octets_at (octet_count (width.0 * rows)) width.1 >>= λ offsets. Some offsets.1)

-- the octets after so many columns
abbrev pub columns_end : ℕ → ℕ → List ℕ → Option (List ℕ)
columns_end zero rows octets = Some octets
columns_end (suc n) rows octets = column_end rows octets >>= λ rest. columns_end n rows rest

-- the keys, and the column at a place, where one is given
abbrev pub column_at_place : ℕ → Option ℕ → List ℕ → Option (Option ParameterColumn)
column_at_place rows None octets = Some None
column_at_place rows (Some place) octets =
    keys_at rows octets >>= λ keys. columns_end place rows keys.1 >>= λ rest. raw_column_at rows rest >>= λ values. Some (Some (column_of_parts keys.0 values.0))

-- the keys and the column of a parameter in the segment that stands at the front
unfoldable pub column_of : ℕ → List ℕ → Option (Option ParameterColumn)
column_of parameter octets =
    counted_at w16 (number_at w16) octets >>= λ parameters. row_count_at parameters.1 >>= λ rows. column_at_place rows.0 (position (λ p. p == parameter) parameters.0) rows.1
