-- The octets of a mission database: which items have a spelling, and the one spelling of each.
use Rattle.std.specs.Prelude.{ℕ, suc, ◌<◌, ◌^◌, List, ◌++◌, length, Bool, true, false, Option, Some, None}
use Rattle.std.specs.List.{AllByRecursion}
use Rattle.std.specs.Int.{w8, w16, w32, w64, w128}
use Rattle.std.specs.Int.RustNames.{FitsSigned}
use Rattle.mdb_items.specs.declared.calibration.Calibration.{Calibration}
use Rattle.mdb_items.specs.declared.calibration.EnumRow.{EnumRow}
use Rattle.mdb_items.specs.declared.calibration.PointsRow.{PointsRow}
use Rattle.mdb_items.specs.declared.calibration.PolyRow.{PolyRow}
use Rattle.mdb_items.specs.declared.calibration.Calibrator.{Calibrator}
use Rattle.mdb_items.specs.declared.calibration.Calibrator.TheVariants.{Poly, Points, Enum}
use Rattle.mdb_items.specs.declared.container.Comparison.{Comparison}
use Rattle.mdb_items.specs.declared.container.Container.{Container}
use Rattle.mdb_items.specs.declared.container.ParameterEntry.{ParameterEntry}
use Rattle.mdb_items.specs.declared.container.Operator.{Operator}
use Rattle.mdb_items.specs.declared.container.Operator.TheVariants.{Equal, NotEqual, Less, LessOrEqual, Greater, GreaterOrEqual}
use Rattle.mdb_items.specs.declared.parameter.Coding.{Coding}
use Rattle.mdb_items.specs.declared.parameter.Coding.TheVariants.{Uint, Int, UintLe, IntLe}
use Rattle.mdb_items.specs.declared.parameter.Parameter.{Parameter}
use Rattle.mdb_items.specs.Database.{Database}
use Rattle.octet_fields.specs.Spelling.{counted, name, number, signed}

-- ---- which items have a spelling

-- 0 where there is no item, else the item's number plus 1
abbrev pub link : Option ℕ → ℕ
link None = 0
link (Some n) = suc n

-- each field of the parameter has room in its octets
pub record FitsParameter (p : Parameter) : Type 0 where
  pub name : length p.name < 2 ^ 8
  pub bits : p.bits < 2 ^ 8
  pub calibration : link p.calibration < 2 ^ 16

-- each field of the row of poly has room in its octets
pub record FitsPoly (r : PolyRow) : Type 0 where
  pub exponent : r.exponent < 2 ^ 8
  pub millionths : FitsSigned w64 r.millionths

-- each field of the row of points has room in its octets
pub record FitsPoints (r : PointsRow) : Type 0 where
  pub x : FitsSigned w128 r.x
  pub millionths : FitsSigned w64 r.millionths

-- each field of the row of enum has room in its octets
pub record FitsEnum (r : EnumRow) : Type 0 where
  pub x : FitsSigned w128 r.x
  pub label : length r.label < 2 ^ 8

-- a 32-bit count of rows, each of which has room in its octets
abbrev pub FitsCalibrator : Calibrator → Type 0
FitsCalibrator (Poly rows) = (length rows < 2 ^ 32) × AllByRecursion FitsPoly rows
FitsCalibrator (Points rows) = (length rows < 2 ^ 32) × AllByRecursion FitsPoints rows
FitsCalibrator (Enum rows) = (length rows < 2 ^ 32) × AllByRecursion FitsEnum rows

-- the name and the calibrator of the calibration have room in their octets
pub record FitsCalibration (c : Calibration) : Type 0 where
  pub name : length c.name < 2 ^ 8
  pub calibrator : FitsCalibrator c.calibrator

-- each field of the comparison has room in its octets
pub record FitsComparison (c : Comparison) : Type 0 where
  pub parameter : c.parameter < 2 ^ 16
  pub number : FitsSigned w128 c.number

-- each field of the entry has room in its octets
pub record FitsEntry (e : ParameterEntry) : Type 0 where
  pub parameter : e.parameter < 2 ^ 16
  pub at : e.at < 2 ^ 32

-- each field of the container has room in its octets
pub record FitsContainer (c : Container) : Type 0 where
  pub name : length c.name < 2 ^ 8
  pub parent : link c.parent < 2 ^ 16
  pub condition : (length c.condition < 2 ^ 8) × AllByRecursion FitsComparison c.condition
  pub entries : (length c.entries < 2 ^ 16) × AllByRecursion FitsEntry c.entries

-- a 16-bit count of each list, and each item has room in its octets
pub record FitsDatabase (d : Database) : Type 0 where
  pub parameters : (length d.parameters < 2 ^ 16) × AllByRecursion FitsParameter d.parameters
  pub calibrations : (length d.calibrations < 2 ^ 16) × AllByRecursion FitsCalibration d.calibrations
  pub containers : (length d.containers < 2 ^ 16) × AllByRecursion FitsContainer d.containers

-- ---- the spelling

-- the octet of a coding
abbrev pub coding_code : Coding → ℕ
coding_code Uint = 0
coding_code Int = 1
coding_code UintLe = 2
coding_code IntLe = 3

-- name, u8 coding, u8 bits, u16 calibration
unfoldable pub parameter_octets : Parameter → List ℕ
parameter_octets p = name p.name ++ (number w8 (coding_code p.coding) ++ (number w8 p.bits ++ number w16 (link p.calibration)))

-- u8 exponent, i64 millionths
unfoldable pub poly_octets : PolyRow → List ℕ
poly_octets r = number w8 r.exponent ++ signed w64 r.millionths

-- i128 x, i64 millionths
unfoldable pub points_octets : PointsRow → List ℕ
points_octets r = signed w128 r.x ++ signed w64 r.millionths

-- i128 x, name-shaped label
unfoldable pub enum_octets : EnumRow → List ℕ
enum_octets r = signed w128 r.x ++ name r.label

-- the octet of a calibrator's kind
abbrev pub kind_code : Calibrator → ℕ
kind_code (Poly rows) = 0
kind_code (Points rows) = 1
kind_code (Enum rows) = 2

-- u32 count, and the rows by their kind
abbrev pub calibrator_rows_octets : Calibrator → List ℕ
calibrator_rows_octets (Poly rows) = counted w32 poly_octets rows
calibrator_rows_octets (Points rows) = counted w32 points_octets rows
calibrator_rows_octets (Enum rows) = counted w32 enum_octets rows

-- name, u8 kind, rows
unfoldable pub calibration_octets : Calibration → List ℕ
calibration_octets c = name c.name ++ (number w8 (kind_code c.calibrator) ++ calibrator_rows_octets c.calibrator)

-- the octet of an operator
abbrev pub operator_code : Operator → ℕ
operator_code Equal = 0
operator_code NotEqual = 1
operator_code Less = 2
operator_code LessOrEqual = 3
operator_code Greater = 4
operator_code GreaterOrEqual = 5

-- u16 parameter, u8 operator, i128 number
unfoldable pub comparison_octets : Comparison → List ℕ
comparison_octets c = number w16 c.parameter ++ (number w8 (operator_code c.operator) ++ signed w128 c.number)

-- u16 parameter, u32 absolute bit position
unfoldable pub container_entry_octets : ParameterEntry → List ℕ
container_entry_octets e = number w16 e.parameter ++ number w32 e.at

-- the octet of an archive flag
abbrev pub archive_code : Bool → ℕ
archive_code false = 0
archive_code true = 1

-- name, u16 parent, u8 archive, u8 count and comparisons, u16 count and entries
unfoldable pub container_octets : Container → List ℕ
container_octets c =
    name c.name ++ (number w16 (link c.parent) ++ (number w8 (archive_code c.archive)
    ++ (counted w8 comparison_octets c.condition ++ counted w16 container_entry_octets c.entries)))

-- the parameters, the calibrations and the containers, each a u16 count and the items in the order of their sheet
unfoldable pub database_octets : Database → List ℕ
database_octets d = counted w16 parameter_octets d.parameters ++ (counted w16 calibration_octets d.calibrations ++ counted w16 container_octets d.containers)
