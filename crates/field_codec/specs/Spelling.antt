-- The one spelling of an entry.
use Rattle.std.specs.Prelude.{ℕ, List, ◌++◌}
use Rattle.std.specs.Int.{w8, w16, w64}
use Rattle.intervals.specs.declared.interval.Interval.{Interval}
use Rattle.intervals.specs.Interval.{format_1_exponent}
use Rattle.arch_types.specs.declared.row.Row.{Row}
use Rattle.mdb_items.specs.Database.{Database}
use Rattle.mdb_octets.specs.Spelling.{database_octets}
use Rattle.octet_fields.specs.Spelling.{counted, name, number, signed}
use Rattle.row_codec.specs.Spelling.{row_octets}
use Rattle.field_codec.specs.declared.entry.Entry.{Entry}
use Rattle.field_codec.specs.Entries.{FillFields}
use Rattle.field_codec.specs.declared.entry.Entry.TheVariants.{Head, Rows, Fill, Seal, LogHead}
use Rattle.seal_codec.specs.Seals.{seal_octets}

-- u8 format 1, u8 interval exponent, u8 count and names of the tables
unfoldable pub opening_octets : List (List ℕ) → List ℕ
opening_octets tables = number w8 1 ++ (number w8 format_1_exponent ++ counted w8 name tables)

-- the opening, and the octets of the database
abbrev pub head_octets : List (List ℕ) → Database → List ℕ
head_octets tables mdb = opening_octets tables ++ database_octets mdb

-- u16 count, and the rows
abbrev pub rows_octets : List Row → List ℕ
rows_octets rows = counted w16 row_octets rows

-- the fields of a fill
abbrev pub fill_fields : Interval → ℕ → List ℕ → FillFields
fill_fields interval base set = (interval.0, (base, set))

-- i64 interval, u64 base, and the octets of the set
abbrev pub fill_fields_octets : FillFields → List ℕ
fill_fields_octets f = signed w64 f.0 ++ (number w64 f.1.0 ++ f.1.1)

-- the same of a fill
abbrev pub fill_octets : Interval → ℕ → List ℕ → List ℕ
fill_octets interval base set = fill_fields_octets (fill_fields interval base set)

-- the number of an entry's kind
abbrev pub kind_of : Entry → ℕ
kind_of (Head tables mdb) = 1
kind_of (Rows rows) = 2
kind_of (Fill interval base set) = 3
kind_of (Seal seal) = 4
kind_of (LogHead rows) = 5

-- what stands behind the kind
abbrev pub body_octets : Entry → List ℕ
body_octets (Head tables mdb) = head_octets tables mdb
body_octets (Rows rows) = rows_octets rows
body_octets (Fill interval base set) = fill_octets interval base set
body_octets (Seal seal) = seal_octets seal
body_octets (LogHead rows) = number w64 rows

-- u8 kind, and what stands behind it
abbrev pub entry_octets : Entry → List ℕ
entry_octets entry = number w8 (kind_of entry) ++ body_octets entry
