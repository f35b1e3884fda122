-- What the rules and the limits come to for those who use the items of a database.
use Rattle.std.specs.Prelude.{◌≡◌, ◌+◌, ◌<◌, ◌≤◌, ◌<ℤ◌, ℕ, ℤ, List, [], ◌∷◌, length, map, nat_eq, slice_get, sum_by, Option, Some, None, true, false}
use Rattle.std.specs.List.{AllByRecursion, IsDistinct}
use Rattle.std.specs.Ordering.{int_eq}
use Rattle.std.specs.Str.{bytes_eq}
use Rattle.text_forms.specs.Names.{is_name}
use Rattle.mdb_items.specs.declared.calibration.Calibration.{Calibration}
use Rattle.mdb_items.specs.declared.calibration.EnumRow.{EnumRow}
use Rattle.mdb_items.specs.declared.calibration.PointsRow.{PointsRow}
use Rattle.mdb_items.specs.declared.calibration.PolyRow.{PolyRow}
use Rattle.mdb_items.specs.declared.calibration.Calibrator.{Calibrator}
use Rattle.mdb_items.specs.declared.calibration.Calibrator.TheVariants.{Poly, Points, Enum}
use Rattle.mdb_items.specs.declared.container.Comparison.{Comparison}
use Rattle.mdb_items.specs.declared.container.Container.{Container}
use Rattle.mdb_items.specs.declared.container.ParameterEntry.{ParameterEntry}
use Rattle.mdb_items.specs.declared.fault.MdbLimit.TheVariants as limit
use Rattle.mdb_items.specs.declared.parameter.Parameter.{Parameter}
use Rattle.mdb_items.specs.ContainerRows.{compares_other}
use Rattle.mdb_items.specs.Database.{Database, IsDatabase, entry_count, row_count, calibrator_len}
use Rattle.mdb_items.specs.Limits.{database_limit, longest_packet_bits, most_comparisons}
use Rattle.mdb_items.specs.Numbers.{is_decimal, is_in_range}
use Rattle.mdb_items.specs.Paths.{ContainerPath, bits_at, path_at, path_below, paths_of}
use Rattle.mdb_items.specs.ParameterRows.{admits, fits_coding, is_reference, reference_to, referenced_calibrator}
use Rattle.mdb_items.specs.Texts.{Text, is_label}

-- ---- texts and numbers

-- the text is a name
abbrev pub IsName : Text → Type 0
IsName text = is_name text ≡ true

-- the text is a label
abbrev pub IsLabel : Text → Type 0
IsLabel text = is_label text ≡ true

-- a whole number of the sheets, from -2^63 to 2^64 - 1
abbrev pub IsWhole : ℤ → Type 0
IsWhole x = is_in_range x ≡ true

-- a decimal of the sheets, in millionths: twelve digits before the point and six after it
abbrev pub IsDecimal : ℤ → Type 0
IsDecimal millionths = is_decimal (Some millionths) ≡ true

-- no two of the names are alike
abbrev pub AreDistinctNames : List Text → Type 0
AreDistinctNames names = IsDistinct bytes_eq names

-- ---- calibrations

-- a term of a polynomial: an exponent from 0 to 3, and a decimal
abbrev pub IsTerm : PolyRow → Type 0
IsTerm row = (row.exponent ≤ 3) × IsDecimal row.millionths

-- a point: a whole number, and a decimal
abbrev pub IsPoint : PointsRow → Type 0
IsPoint point = IsWhole point.x × IsDecimal point.millionths

-- a row of an enumeration: a whole number, and a label
abbrev pub IsLabelled : EnumRow → Type 0
IsLabelled row = IsWhole row.x × IsLabel row.label

-- no exponent stands twice
abbrev pub AreDistinctExponents : List PolyRow → Type 0
AreDistinctExponents rows = IsDistinct nat_eq (map (λ row. row.exponent) rows)

-- each x is above the ones before it
abbrev pub ArePointsRising : List PointsRow → Type 0
ArePointsRising [] = Unit {0}
ArePointsRising (point ∷ points) = AllByRecursion (λ later. point.x <ℤ later.x) points × ArePointsRising points

-- no raw number stands twice
abbrev pub AreDistinctNumbers : List EnumRow → Type 0
AreDistinctNumbers rows = IsDistinct int_eq (map (λ row. row.x) rows)

-- a polynomial has a term, and none twice
pub record IsPolynomial (rows : List PolyRow) : Type 0 where
  pub some : 1 ≤ length rows
  pub each : AllByRecursion IsTerm rows
  pub distinct : AreDistinctExponents rows

-- a line through points: two or more, which rise
pub record IsPolyline (points : List PointsRow) : Type 0 where
  pub pair : 2 ≤ length points
  pub each : AllByRecursion IsPoint points
  pub rising : ArePointsRising points

-- an enumeration has a row, and no number twice
pub record IsEnumeration (rows : List EnumRow) : Type 0 where
  pub some : 1 ≤ length rows
  pub each : AllByRecursion IsLabelled rows
  pub distinct : AreDistinctNumbers rows

-- the rows of a calibration are sound by their kind
abbrev pub IsCalibrator : Calibrator → Type 0
IsCalibrator (Poly rows) = IsPolynomial rows
IsCalibrator (Points points) = IsPolyline points
IsCalibrator (Enum rows) = IsEnumeration rows

-- a calibration has a name, and sound rows, no more than a database has
pub record IsCalibration (c : Calibration) : Type 0 where
  pub named : IsName c.name
  pub rows : IsCalibrator c.calibrator
  pub few : calibrator_len c.calibrator ≤ database_limit limit.CalibrationRows

-- ---- parameters

-- a parameter has a name, its bits fit the coding, and its calibration is one of the database and may be the parameter's
pub record IsParameter (d : Database) (p : Parameter) : Type 0 where
  pub named : IsName p.name
  pub width : fits_coding (Some p.coding) (Some p.bits) ≡ true
  pub calibration : is_reference (length d.calibrations) (reference_to p.calibration) ≡ true
  pub admitted : admits p.bits (referenced_calibrator d.calibrations (reference_to p.calibration)) ≡ true

-- ---- containers

-- the entry is of a parameter of the database, and ends inside the longest packet
pub record IsEntry (d : Database) (e : ParameterEntry) : Type 0 where
  pub parameter : e.parameter < length d.parameters
  pub near : e.at + bits_at d.parameters e.parameter ≤ longest_packet_bits

-- no parameter stands twice
abbrev pub AreDistinctEntries : List ParameterEntry → Type 0
AreDistinctEntries entries = IsDistinct nat_eq (map (λ e. e.parameter) entries)

-- a path has at most 32 containers and 256 entries, and no parameter stands on it twice
pub record IsPath (path : ContainerPath) : Type 0 where
  pub few_containers : path.containers ≤ 32
  pub few_entries : length path.entries ≤ 256
  pub distinct : AreDistinctEntries path.entries

-- the condition compares entries of the path above with whole numbers, no more than a condition may
pub record IsCondition (entries : List ParameterEntry) (condition : List Comparison) : Type 0 where
  pub few : length condition ≤ most_comparisons
  pub whole : AllByRecursion (λ c. IsWhole c.number) condition
  pub above : compares_other entries condition ≡ false

-- only the first container has no parent, and the parent of each other stands before it
abbrev pub IsBelowParent : ℕ → Option ℕ → Type 0
IsBelowParent n None = n ≡ 0
IsBelowParent n (Some parent) = parent < n

-- the container with a number has a name, stands below its parent, its condition, entries and path are sound, and its path
-- is its parent's, and then itself
pub record IsContainer (d : Database) (n : ℕ) (c : Container) : Type 0 where
  pub named : IsName c.name
  pub parent : IsBelowParent n c.parent
  pub condition : IsCondition (path_at (paths_of d.containers) c.parent).entries c.condition
  pub entries : AllByRecursion (IsEntry d) c.entries
  pub path : IsPath (path_at (paths_of d.containers) (Some n))
  pub below : path_at (paths_of d.containers) (Some n) ≡ path_below (path_at (paths_of d.containers) c.parent) c

-- ---- the database

-- a database is within its limits and has a root, its items of one kind have distinct names, and each item is sound
pub record IsStructured (d : Database) : Type 0 where
  pub few_calibrations : length d.calibrations ≤ database_limit limit.Calibrations
  pub few_rows : sum_by row_count d.calibrations ≤ database_limit limit.CalibrationRows
  pub few_parameters : length d.parameters ≤ database_limit limit.Parameters
  pub few_containers : length d.containers ≤ database_limit limit.Containers
  pub few_entries : sum_by entry_count d.containers ≤ database_limit limit.Entries
  pub root : 0 < length d.containers
  pub calibration_names : AreDistinctNames (map (λ c. c.name) d.calibrations)
  pub parameter_names : AreDistinctNames (map (λ p. p.name) d.parameters)
  pub container_names : AreDistinctNames (map (λ c. c.name) d.containers)
  pub calibrations : (n : ℕ) (c : Calibration) → slice_get d.calibrations n ≡ Some c → IsCalibration c
  pub parameters : (n : ℕ) (p : Parameter) → slice_get d.parameters n ≡ Some p → IsParameter d p
  pub containers : (n : ℕ) (c : Container) → slice_get d.containers n ≡ Some c → IsContainer d n c

-- each database has this structure
abbrev pub DatabaseIsStructured : Type 0
DatabaseIsStructured = (d : Database) → IsDatabase d → IsStructured d
