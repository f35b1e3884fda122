-- The raw numbers for which the rules of the sheets admit a calibration.
use Rattle.std.specs.Prelude.{◌≡◌, ℕ, ◌-◌, ◌≤◌, ◌^◌, length, true, Option, Some, None, ℤ, pos, neg_ℤ, ◌≤ℤ◌, ◌<ℤ◌}
use Rattle.std.specs.List.{AllByRecursion}
use Rattle.mdb_items.specs.declared.calibration.Calibration.{Calibration}
use Rattle.mdb_items.specs.declared.calibration.Calibrator.{Calibrator}
use Rattle.mdb_items.specs.declared.calibration.Calibrator.TheVariants.{Poly, Points, Enum}
use Rattle.mdb_items.specs.declared.fault.MdbLimit.TheVariants.{CalibrationRows}
use Rattle.mdb_items.specs.declared.parameter.Coding.{Coding}
use Rattle.mdb_items.specs.declared.parameter.Coding.TheVariants.{Uint, Int, UintLe, IntLe}
use Rattle.mdb_items.specs.declared.parameter.Parameter.{Parameter}
use Rattle.mdb_items.specs.Limits.{database_limit}
use Rattle.mdb_items.specs.ParameterRows.{admits, calibrator_of_calibration}
use Rattle.mdb_items.specs.Structure.{IsPoint, ArePointsRising}

-- below 2^bits
abbrev pub IsUnsigned : ℕ → ℤ → Type 0
IsUnsigned bits raw = (pos 0 ≤ℤ raw) × (raw <ℤ pos (2 ^ bits))

-- two's complement: from -2^(bits - 1) to 2^(bits - 1) - 1
abbrev pub IsSigned : ℕ → ℤ → Type 0
IsSigned bits raw = (neg_ℤ (pos (2 ^ (bits - 1))) ≤ℤ raw) × (raw <ℤ pos (2 ^ (bits - 1)))

-- the raw numbers of a coding and a width
abbrev pub IsInWidth : Coding → ℕ → ℤ → Type 0
IsInWidth Uint bits raw = IsUnsigned bits raw
IsInWidth Int bits raw = IsSigned bits raw
IsInWidth UintLe bits raw = IsUnsigned bits raw
IsInWidth IntLe bits raw = IsSigned bits raw

-- the rules of a calibrator's own rows: points rise, and labels are no more than a database may have
abbrev pub KeepsRules : Option Calibrator → Type 0
KeepsRules None = Unit {0}
KeepsRules (Some (Poly rows)) = Unit {0}
KeepsRules (Some (Points points)) = AllByRecursion IsPoint points × ArePointsRising points
KeepsRules (Some (Enum rows)) = length rows ≤ database_limit CalibrationRows

-- the raw number is one of a parameter for which the rules of the sheets admit the calibration
pub record IsAdmitted (calibration : Option Calibration) (raw : ℤ) : Type 0 where
  pub parameter : Parameter
  pub in_width : IsInWidth parameter.coding parameter.bits raw
  pub rules : KeepsRules (calibrator_of_calibration calibration)
  pub admitted : admits parameter.bits (calibrator_of_calibration calibration) ≡ true
