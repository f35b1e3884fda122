-- Which entries the format of the archive's journal admits, whatever stands beside them.
use Rattle.std.specs.Prelude.{◌≡◌, ◌≢◌, ℕ, ℤ, pos, ◌<◌, ◌≤◌, ◌^◌, ◌≤ℤ◌, List, [], ◌∷◌, length, slice_get, Some, true, false, codes}
use Rattle.std.specs.Int.{w64}
use Rattle.std.specs.Int.RustNames.{FitsSigned}
use Rattle.std.specs.List.{AllByRecursion}
use Rattle.arch_types.specs.declared.row.Row.{Row}
use Rattle.text_forms.specs.Names.{is_name}
use Rattle.mdb_items.specs.Database.{IsDatabase}
use Rattle.row_codec.specs.Rows.{IsStored}
use Rattle.field_codec.specs.declared.entry.Entry.{Entry}
use Rattle.octet_fields.specs.Exact.{IsOctets}
use Rattle.field_codec.specs.declared.entry.Entry.TheVariants.{Head, Rows, Fill, Seal, LogHead}
use Rattle.seal_codec.specs.Seals.{IsSeal}

-- ---- heads

-- the name of the first table
abbrev pub tm : List ℕ
tm = codes "tm"

-- no two are the same
abbrev pub AreDistinct : List (List ℕ) → Type 0
AreDistinct [] = Unit {0}
AreDistinct (name ∷ names) = AllByRecursion (λ other. other ≢ name) names × AreDistinct names

-- 1 to 16 distinct names, the first of them `tm`
pub record AreTables (tables : List (List ℕ)) : Type 0 where
  pub names : AllByRecursion (λ table. is_name table ≡ true) tables
  pub few : length tables ≤ 16
  pub first : slice_get tables 0 ≡ Some tm
  pub distinct : AreDistinct tables

-- ---- rows

-- 1 to 1,024 rows that may be stored
pub record AreStored (rows : List Row) : Type 0 where
  pub some : 1 ≤ length rows
  pub few : length rows ≤ 1024
  pub each : AllByRecursion IsStored rows

-- ---- fills

-- the number of an interval, a base, and the octets of a set
abbrev pub FillFields : Type 0
FillFields = ℤ × (ℕ × List ℕ)

-- an interval and a base of 64 bits; the octets of the set may be any: what reads them says whether they are one
abbrev pub IsFill : FillFields → Type 0
IsFill f = FitsSigned w64 f.0 × ((f.1.0 < 2 ^ 64) × IsOctets f.1.1)

-- ---- log heads

-- a number of rows of 64 bits
abbrev pub IsRowCount : ℕ → Type 0
IsRowCount rows = rows < 2 ^ 64

-- ---- entries

-- what the format admits by itself: that tables and packet names exist, that keys are new, and which files and rows a seal names, is
-- asked beside the archive
abbrev pub IsArchiveEntry : Entry → Type 0
IsArchiveEntry (Head tables mdb) = AreTables tables × IsDatabase mdb
IsArchiveEntry (Rows rows) = AreStored rows
IsArchiveEntry (Fill interval base set) = IsFill (interval.0, (base, set))
IsArchiveEntry (Seal seal) = IsSeal seal
IsArchiveEntry (LogHead rows) = IsRowCount rows
