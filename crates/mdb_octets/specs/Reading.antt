-- Reading the octets of a mission database, item by item; whether it breaks a rule isn't asked here.
use Rattle.std.specs.Prelude.{ℕ, zero, suc, List, Bool, true, false, Option, Some, None}
use Rattle.std.specs.Int.{w8, w16, w32, w64, w128}
use Rattle.mdb_items.specs.declared.calibration.Calibration.{Calibration}
use Rattle.mdb_items.specs.declared.calibration.EnumRow.{EnumRow}
use Rattle.mdb_items.specs.declared.calibration.PointsRow.{PointsRow}
use Rattle.mdb_items.specs.declared.calibration.PolyRow.{PolyRow}
use Rattle.mdb_items.specs.declared.calibration.Calibrator.{Calibrator}
use Rattle.mdb_items.specs.declared.calibration.Calibrator.TheVariants.{Poly, Points, Enum}
use Rattle.mdb_items.specs.declared.container.Comparison.{Comparison}
use Rattle.mdb_items.specs.declared.container.Container.{Container}
use Rattle.mdb_items.specs.declared.container.ParameterEntry.{ParameterEntry}
use Rattle.mdb_items.specs.declared.container.Operator.{Operator}
use Rattle.mdb_items.specs.declared.container.Operator.TheVariants.{Equal, NotEqual, Less, LessOrEqual, Greater, GreaterOrEqual}
use Rattle.mdb_items.specs.declared.parameter.Coding.{Coding}
use Rattle.mdb_items.specs.declared.parameter.Coding.TheVariants.{Uint, Int, UintLe, IntLe}
use Rattle.mdb_items.specs.declared.parameter.Parameter.{Parameter}
use Rattle.mdb_items.specs.Database.{Database}
use Rattle.octet_fields.specs.Reading.{Reader, both_at, counted_at, decoded_at, kind_at, mapped_at, name_at, nothing_at, number_at, signed_at}

-- the number in a link: 0 is none, and n + 1 is n
abbrev pub from_link : ℕ → Option ℕ
from_link zero = None
from_link (suc n) = Some n

-- reads a link in 16 bits
unfoldable pub link_at : Reader (Option ℕ)
link_at = mapped_at from_link (number_at w16)

-- ---- parameters

-- the coding of an octet, where it has one
abbrev pub coding_from : ℕ → Option Coding
coding_from zero = Some Uint
coding_from (suc zero) = Some Int
coding_from (suc (suc zero)) = Some UintLe
coding_from (suc (suc (suc zero))) = Some IntLe
coding_from (suc (suc (suc (suc n)))) = None

-- reads a coding
unfoldable pub coding_at : Reader Coding
coding_at = decoded_at coding_from (number_at w8)

-- a parameter of the fields that were read, in their order
abbrev pub parameter_from : List ℕ × (Coding × (ℕ × Option ℕ)) → Parameter
parameter_from p = record { name = p.0; coding = p.1.0; bits = p.1.1.0; calibration = p.1.1.1 }

-- reads a parameter: name, coding, bits, calibration
unfoldable pub parameter_at : Reader Parameter
parameter_at = mapped_at parameter_from (both_at name_at (λ _. both_at coding_at (λ _. both_at (number_at w8) (λ _. link_at))))

-- ---- calibrations

-- reads a row of poly
unfoldable pub poly_at : Reader PolyRow
poly_at = mapped_at (λ p. record { exponent = p.0; millionths = p.1 }) (both_at (number_at w8) (λ _. signed_at w64))

-- reads a row of points
unfoldable pub points_at : Reader PointsRow
points_at = mapped_at (λ p. record { x = p.0; millionths = p.1 }) (both_at (signed_at w128) (λ _. signed_at w64))

-- reads a row of enum
unfoldable pub enum_at : Reader EnumRow
enum_at = mapped_at (λ p. record { x = p.0; label = p.1 }) (both_at (signed_at w128) (λ _. name_at))

-- the rows of a kind
abbrev pub calibrator_rows_at : ℕ → Reader Calibrator
calibrator_rows_at zero = mapped_at Poly (counted_at w32 poly_at)
calibrator_rows_at (suc zero) = mapped_at Points (counted_at w32 points_at)
calibrator_rows_at (suc (suc zero)) = mapped_at Enum (counted_at w32 enum_at)
calibrator_rows_at (suc (suc (suc n))) = nothing_at

-- reads a calibrator: its kind, and then its rows
unfoldable pub calibrator_at : Reader Calibrator
calibrator_at = kind_at calibrator_rows_at

-- reads a calibration: name and calibrator
unfoldable pub calibration_at : Reader Calibration
calibration_at = mapped_at (λ p. record { name = p.0; calibrator = p.1 }) (both_at name_at (λ _. calibrator_at))

-- ---- containers

-- the operator of an octet, where it has one
abbrev pub operator_from : ℕ → Option Operator
operator_from zero = Some Equal
operator_from (suc zero) = Some NotEqual
operator_from (suc (suc zero)) = Some Less
operator_from (suc (suc (suc zero))) = Some LessOrEqual
operator_from (suc (suc (suc (suc zero)))) = Some Greater
operator_from (suc (suc (suc (suc (suc zero))))) = Some GreaterOrEqual
operator_from (suc (suc (suc (suc (suc (suc n)))))) = None

-- reads an operator
unfoldable pub operator_at : Reader Operator
operator_at = decoded_at operator_from (number_at w8)

-- reads a comparison: parameter, operator, number
unfoldable pub comparison_at : Reader Comparison
comparison_at = mapped_at (λ p. record { parameter = p.0; operator = p.1.0; number = p.1.1 }) (both_at (number_at w16) (λ _. both_at operator_at (λ _. signed_at w128)))

-- reads an entry: parameter and position
unfoldable pub entry_at : Reader ParameterEntry
entry_at = mapped_at (λ p. record { parameter = p.0; at = p.1 }) (both_at (number_at w16) (λ _. number_at w32))

-- the archive flag of an octet, where it is one
abbrev pub archive_from : ℕ → Option Bool
archive_from zero = Some false
archive_from (suc zero) = Some true
archive_from (suc (suc n)) = None

-- reads an archive flag
unfoldable pub archive_at : Reader Bool
archive_at = decoded_at archive_from (number_at w8)

-- a container of the fields that were read, in their order
abbrev pub container_from : List ℕ × (Option ℕ × (Bool × (List Comparison × List ParameterEntry))) → Container
container_from p = record { name = p.0; parent = p.1.0; archive = p.1.1.0; condition = p.1.1.1.0; entries = p.1.1.1.1 }

-- reads a container: name, parent, archive flag, condition, entries
unfoldable pub container_at : Reader Container
container_at = mapped_at container_from
    (both_at name_at (λ _. both_at link_at (λ _. both_at archive_at (λ _. both_at (counted_at w8 comparison_at) (λ _. counted_at w16 entry_at)))))

-- ---- the database

-- a database of the three lists that were read, in their order
abbrev pub database_from : List Parameter × (List Calibration × List Container) → Database
database_from p = record { parameters = p.0; calibrations = p.1.0; containers = p.1.1 }

-- reads a database: parameters, calibrations, containers
unfoldable pub database_at : Reader Database
database_at = mapped_at database_from (both_at (counted_at w16 parameter_at) (λ _. both_at (counted_at w16 calibration_at) (λ _. counted_at w16 container_at)))
