-- The rows of a set that packets give under a database.
use Rattle.std.specs.Prelude.{◌≡◌, ℕ, ℤ, Bool, List, [], ◌∷◌, length, map, filter, nat_lt, if◌then◌else◌}
use Rattle.std.specs.List.{AllByRecursion}
use Rattle.arch_types.specs.declared.row.Row.{Row}
use Rattle.intervals.specs.Interval.{interval_of}
use Rattle.mdb_items.specs.Database.{Database}
use Rattle.container_extract.specs.Extraction.{raw_extraction}
use Rattle.param_segments.specs.Rows.{SetRow, AreSetRows, set_row}
use Rattle.param_segments.specs.Cells.{AreValuesOf}

-- the raw values of a row's packet, at its key
abbrev pub extracted_row : Database → Row → SetRow
extracted_row db row = set_row row.key (raw_extraction db row.packet)

-- a row has a value
abbrev pub has_values : SetRow → Bool
has_values row = nat_lt 0 (length row.values)

-- the row, where it has a value
abbrev pub kept_row : SetRow → List SetRow
kept_row row = if has_values row then row ∷ [] else []

-- the rows of a set that rows give: those whose packet has a value
abbrev pub extracted_rows : Database → List Row → List SetRow
extracted_rows db rows = filter has_values (map (extracted_row db) rows)

-- rows of a set of an interval, of 2^exponent milliseconds, and of a database
pub record IsSetOf (db : Database) (exponent : ℕ) (interval : ℤ) (set : List SetRow) : Type 0 where
  pub rows : AreSetRows set
  pub inside : AllByRecursion (λ row. interval_of exponent row.key.time ≡ interval) set
  pub values : AreValuesOf db set
