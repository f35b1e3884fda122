-- Reading an entry from left to right.
use Rattle.std.specs.Prelude.{◌≡◌, ℕ, ℤ, pos, ◌+◌, List, [], ◌∷◌, ◌++◌, length, take, drop, slice_index, Option, Some, None, Bool, true, false, not, ◌&&◌, nat_lt, nat_le, int_lt, ◌==◌, if◌then◌else◌}
use Rattle.std.specs.Int.{w8, w16, w64}
use Rattle.std.specs.List.{list_any}
use Rattle.std.specs.Str.{bytes_eq}
use Rattle.arch_types.specs.declared.row.Row.{Row}
use Rattle.text_forms.specs.Names.{is_name}
use Rattle.row_codec.specs.Reading.{row_at}
use Rattle.octet_fields.specs.Reading.{Reader, both_at, counted_at, mapped_at, name_at, number_at, rest_at, signed_at, tested_at, times_at}
use Rattle.mdb_items.specs.Database.{Database, IsDatabase}
use Rattle.field_codec.specs.Entries.{tm, AreTables, FillFields}
use Rattle.intervals.specs.Interval.{format_1_exponent}
use Rattle.field_codec.specs.Spelling.{head_octets}

-- ---- the opening of a head

-- no two names are the same
abbrev pub is_distinct : List (List ℕ) → Bool
is_distinct [] = true
is_distinct (name ∷ names) = not (list_any (bytes_eq name) names) && is_distinct names

-- the first table is `tm`
abbrev pub begins_with_tm : List (List ℕ) → Bool
begins_with_tm [] = false
begins_with_tm (name ∷ names) = bytes_eq name tm

-- the tables of a head: 1 to 16 different names, `tm` first
unfoldable pub are_tables : List (List ℕ) → Bool
are_tables tables = begins_with_tm tables && (nat_le (length tables) 16 && is_distinct tables)

-- reads the name of a table
unfoldable pub table_name_at : Reader (List ℕ)
table_name_at = tested_at is_name name_at

-- reads the names of the tables
unfoldable pub tables_at : Reader (List (List ℕ))
tables_at = tested_at are_tables (counted_at w8 table_name_at)

-- a number that has to be this one
unfoldable pub this_at : ℕ → Reader ℕ
this_at n = tested_at (λ m. m == n) (number_at w8)

-- reads the front of a head: the kind, the format, the tables
unfoldable pub opening_at : Reader (List (List ℕ))
opening_at = mapped_at (λ p. p.1.1) (both_at (this_at 1) (λ _. both_at (this_at format_1_exponent) (λ _. tables_at)))

-- what stands behind the kind of a head
abbrev pub IsHead : List (List ℕ) × Database → Type 0
IsHead head = AreTables head.0 × IsDatabase head.1

-- the octets of a head that was read
abbrev pub head_of : List (List ℕ) × Database → List ℕ
head_of head = head_octets head.0 head.1

-- ---- rows

-- a record has 1 to 1,024 rows
abbrev pub is_count : ℕ → Bool
is_count n = nat_le 1 n && nat_le n 1024

-- reads the rows of a record, after their count
unfoldable pub rows_at : Reader (List Row)
rows_at = mapped_at (λ p. p.1) (both_at (tested_at is_count (number_at w16)) (λ n. times_at row_at n))

-- ---- fills

-- reads a fill: the interval, the base, and all octets behind them
unfoldable pub fill_at : Reader FillFields
fill_at = both_at (signed_at w64) (λ _. both_at (number_at w64) (λ _. rest_at))
