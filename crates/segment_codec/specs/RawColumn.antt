-- A raw column: one parameter's raw values in the segment's rows.
use Rattle.std.specs.Prelude.{◌≡◌, ℕ, ℤ, pos, ◌+◌, ◌-◌, ◌%◌, ◌^◌, ◌+ℤ◌, ◌-ℤ◌, Bool, ◌&&◌, ◌==◌, nat_lt, nat_le, int_lt, List, [], ◌∷◌, ◌++◌, length, map, fold, max, replicate, None, if◌then◌else◌}
use Rattle.std.specs.List.{AllByRecursion, list_all, list_any}
use Rattle.std.specs.Int.{w8, w128, cast_signed, cast_unsigned, int_min, leading_zeros}
use Rattle.std.specs.Ordering.{int_eq}
use Rattle.std.specs.Int.RustNames.{FitsSigned, unsigned_abs}
use Rattle.octet_fields.specs.Reading.{Reader, ◌>>=◌, number_at, signed_at, both_at, tested_at, mapped_at}
use Rattle.octet_fields.specs.Spelling.{signed}
use Rattle.segment_codec.specs.Bits.{packed, packed_at}
use Rattle.segment_codec.specs.declared.unpack.Unpacked.{Unpacked}

-- a value for each of so many rows
abbrev pub IsRawColumn : ℕ → List ℤ → Type 0
IsRawColumn rows values = (length values ≡ rows) × AllByRecursion (FitsSigned w128) values

-- the number of binary digits of a number
unfoldable pub bit_len : ℕ → ℕ
bit_len n = 128 - leading_zeros w128 n

-- how far each value lies above another
abbrev pub offsets_from : ℤ → List ℤ → List ℕ
offsets_from low values = map (λ value. unsigned_abs (value -ℤ low)) values

-- the greatest of numbers, or 0
abbrev pub greatest : List ℕ → ℕ
greatest numbers = fold max 0 numbers

-- form 1: the least value, the number of digits of the greatest difference from it, and each value's difference in so many bits
abbrev pub packed_column : ℤ → List ℕ → List ℕ
packed_column low offsets = 1 ∷ (signed w128 low ++ (bit_len (greatest offsets) ∷ packed (bit_len (greatest offsets)) offsets))

-- the values are all equal to one
abbrev pub are_all : ℤ → List ℤ → Bool
are_all value values = list_all (λ other. int_eq other value) values

-- form 0, and the value, where the values are all equal; else form 1
unfoldable pub raw_column : List ℤ → List ℕ
raw_column [] = []
raw_column (value ∷ values) =
    if are_all value values then 0 ∷ signed w128 value
    else (let low = fold int_min value values in packed_column low (offsets_from low (value ∷ values)))

-- ---- reading

-- form 1 has a width from 1 to 128
abbrev pub is_width : ℕ → Bool
is_width width = nat_lt 0 width && nat_le width 128

-- the least value, the width, the differences
abbrev pub ColumnParts : Type 0
ColumnParts = ℤ × (ℕ × List ℕ)

-- one difference is 0, the width is that of the greatest, and the greatest value is an i128
abbrev pub is_tight : ColumnParts → Bool
is_tight p = list_any (λ d. d == 0) p.1.1 && (bit_len (greatest p.1.1) == p.1.0 && int_lt (p.0 +ℤ pos (greatest p.1.1)) (pos (2 ^ 127)))

-- the values that lie so far above the least
abbrev pub values_of_parts : ColumnParts → List ℤ
values_of_parts p = map (λ d. p.0 +ℤ pos d) p.1.1

-- the value that lies so far above the least, in the 128 bits of a value
abbrev pub value_above : ℤ → ℕ → ℤ
value_above low offset = cast_signed w128 ((cast_unsigned w128 low + offset) % 2 ^ 128)

-- what is kept of differences while they are read: the values, the greatest difference, whether one is 0
abbrev pub unpacked : ℤ → List ℕ → Unpacked
unpacked low offsets = record { values = map (value_above low) offsets; top = greatest offsets; has_zero = list_any (λ d. d == 0) offsets }

-- reads a column of form 0 behind its form
unfoldable pub same_at : ℕ → Reader (List ℤ)
same_at rows = mapped_at (λ value. replicate rows value) (signed_at w128)

-- reads the parts of a column of form 1 behind its form
unfoldable pub column_parts_at : ℕ → Reader ColumnParts
column_parts_at rows = tested_at is_tight (both_at (signed_at w128) (λ _. both_at (tested_at is_width (number_at w8)) (λ width. packed_at width rows)))

-- reads a raw column of so many rows
unfoldable pub raw_column_at : ℕ → Reader (List ℤ)
raw_column_at rows octets =
    number_at w8 octets >>= λ form.
    if form.0 == 0 then same_at rows form.1
    else (if form.0 == 1 then mapped_at values_of_parts (column_parts_at rows) form.1 else None)
