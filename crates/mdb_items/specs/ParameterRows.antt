-- The parameters sheet: one row a parameter.
use Rattle.std.specs.Prelude.{ℕ, ◌*◌, ◌^◌, ◌%◌, ◌==◌, ◌&&◌, ◌||◌, not, Bool, true, false, List, [], ◌∷◌, length, map, take, fold, max, sum_by, slice_get, Option, Some, None, is_some, unwrap_or, nat_le, nat_lt, unsigned_abs}
use Rattle.text_forms.specs.Names.{is_name}
use Rattle.mdb_items.specs.declared.calibration.PolyRow.{PolyRow}
use Rattle.mdb_items.specs.declared.calibration.Calibrator.{Calibrator}
use Rattle.mdb_items.specs.declared.calibration.Calibrator.TheVariants.{Poly, Points, Enum}
use Rattle.mdb_items.specs.declared.calibration.Calibration.{Calibration}
use Rattle.mdb_items.specs.declared.parameter.Coding.{Coding}
use Rattle.mdb_items.specs.declared.parameter.Coding.TheVariants.{Uint, Int, UintLe, IntLe}
use Rattle.mdb_items.specs.declared.parameter.Parameter.{Parameter}
use Rattle.mdb_items.specs.declared.rows.ParameterRow.{ParameterRow}
use Rattle.mdb_items.specs.declared.rows.Reference.{Reference}
use Rattle.mdb_items.specs.declared.rows.Reference.TheVariants.{Nothing, Unknown, Known}
use Rattle.mdb_items.specs.Checks.{Checks, first_broken}
use Rattle.mdb_items.specs.Texts.{place_of}

-- the lowest octet comes first
abbrev pub is_le : Coding → Bool
is_le Uint = false
is_le Int = false
is_le UintLe = true
is_le IntLe = true

-- 1 to 64 bits, and whole octets where the lowest comes first
abbrev pub fits_coding : Option Coding → Option ℕ → Bool
fits_coding None bits = false
fits_coding (Some coding) None = false
fits_coding (Some coding) (Some n) = nat_le 1 n && nat_le n 64 && (not (is_le coding) || (n % 8 == 0))

-- the text names no item, or it names one of so many
abbrev pub is_reference : ℕ → Reference → Bool
is_reference count Nothing = true
is_reference count Unknown = false
is_reference count (Known n) = nat_lt n count

-- the greatest exponent of a polynomial
abbrev pub degree : List PolyRow → ℕ
degree rows = fold (λ d r. max d r.exponent) 0 rows

-- how far a coefficient may carry a number of so many bits, in millionths
abbrev pub reach : ℕ → PolyRow → ℕ
reach bits r = unsigned_abs r.millionths * 2 ^ (bits * r.exponent)

-- bits times degree is at most 60, and the coefficients reach below 2^63 millionths together
abbrev pub admits : ℕ → Option Calibrator → Bool
admits bits None = true
admits bits (Some (Poly rows)) = nat_le (bits * degree rows) 60 && nat_lt (sum_by (reach bits) rows) 9223372036854775808
admits bits (Some (Points rows)) = true
admits bits (Some (Enum rows)) = true

-- the calibrator of a calibration, where there is one
abbrev pub calibrator_of_calibration : Option Calibration → Option Calibrator
calibrator_of_calibration None = None
calibrator_of_calibration (Some c) = Some c.calibrator

-- the calibrator that a reference names
abbrev pub referenced_calibrator : List Calibration → Reference → Option Calibrator
referenced_calibrator calibrations Nothing = None
referenced_calibrator calibrations Unknown = None
referenced_calibrator calibrations (Known n) = calibrator_of_calibration (slice_get calibrations n)

-- the rules of a row below the parameters above it
abbrev pub parameter_checks : List Calibration → List Parameter → ParameterRow → Checks
parameter_checks calibrations above row =
    -- the record hasn't four fields
    (2, not (row.fields == 4))
    -- the name isn't a name
    ∷ (3, not (is_name row.name))
    -- the name is that of an earlier row
    ∷ (5, is_some (place_of row.name (map (λ p. p.name) above)))
    -- the coding isn't uint, int, uintLE or intLE
    ∷ (11, not (is_some row.coding))
    -- the bits aren't 1 to 64, or no multiple of 8 for a coding whose lowest octet comes first
    ∷ (12, not (fits_coding row.coding row.bits))
    -- no calibration has the name
    ∷ (13, not (is_reference (length calibrations) row.calibration))
    -- the polynomial may carry the parameter too far
    ∷ (14, not (admits (unwrap_or row.bits 0) (referenced_calibrator calibrations row.calibration)))
    ∷ []

-- the number that a reference names
abbrev pub referenced_number : Reference → Option ℕ
referenced_number Nothing = None
referenced_number Unknown = None
referenced_number (Known n) = Some n

-- the parameter that a row spells
abbrev pub parameter_of : ParameterRow → Parameter
parameter_of row = record { name = row.name; coding = unwrap_or row.coding Uint; bits = unwrap_or row.bits 0; calibration = referenced_number row.calibration }

-- the parameters that rows spell
abbrev pub parameters_of : List ParameterRow → List Parameter
parameters_of rows = map parameter_of rows

-- the first rule that a row breaks
abbrev pub parameter_fault : List Calibration → List Parameter → Option ParameterRow → Option ℕ
parameter_fault calibrations above None = None
parameter_fault calibrations above (Some row) = first_broken (parameter_checks calibrations above row)

-- the first rule that the row at a place breaks
unfoldable pub parameter_fault_at : List Calibration → List ParameterRow → ℕ → Option ℕ
parameter_fault_at calibrations rows i = parameter_fault calibrations (parameters_of (take i rows)) (slice_get rows i)

-- a reference to a number
abbrev pub reference_to : Option ℕ → Reference
reference_to None = Nothing
reference_to (Some n) = Known n

-- the row of a parameter
abbrev pub row_of_parameter : Parameter → ParameterRow
row_of_parameter p = record { fields = 4; name = p.name; coding = Some p.coding; bits = Some p.bits; calibration = reference_to p.calibration }
