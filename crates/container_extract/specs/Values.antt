-- The values of entries in a packet, and conditions on values.
use Rattle.std.specs.Prelude.{◌≡◌, ◌<◌, ℕ, ◌+◌, ◌*◌, ◌==◌, Bool, false, not, List, length, slice_get, Option, Some, None, nat_le, ℤ, int_le, int_lt}
use Rattle.std.specs.List.{find, list_all}
use Rattle.std.specs.Ordering.{int_eq}
use Rattle.arch_types.specs.declared.cell.Eng.{Eng}
use Rattle.mdb_items.specs.declared.container.Comparison.{Comparison}
use Rattle.mdb_items.specs.declared.container.ParameterEntry.{ParameterEntry}
use Rattle.mdb_items.specs.declared.container.Operator.{Operator}
use Rattle.mdb_items.specs.declared.container.Operator.TheVariants.{Equal, NotEqual, Less, LessOrEqual, Greater, GreaterOrEqual}
use Rattle.mdb_items.specs.declared.parameter.Coding.{Coding}
use Rattle.mdb_items.specs.declared.parameter.Coding.TheVariants.{Uint}
use Rattle.mdb_items.specs.declared.parameter.Parameter.{Parameter}
use Rattle.mdb_items.specs.Database.{Database}
use Rattle.mdb_items.specs.Paths.{bits_of_parameter}
use Rattle.mdb_lookups.specs.Lookups.{calibration_of}
use Rattle.calibration.specs.Admitted.{IsInWidth}
use Rattle.calibration.specs.Calibrated.{calibrated}
use Rattle.container_extract.specs.declared.values.ParameterValue.{ParameterValue}
use Rattle.container_extract.specs.declared.values.RawValue.{RawValue}
use Rattle.container_extract.specs.Bits.{raw_bits_at}

-- an entry lies inside the packet: it doesn't pass the packet's end
abbrev pub fits : Database → List ℕ → ParameterEntry → Bool
fits db packet e = nat_le (e.at + bits_of_parameter (slice_get db.parameters e.parameter)) (8 * length packet)

-- the coding of a parameter
abbrev pub coding_of : Option Parameter → Coding
coding_of None = Uint
coding_of (Some p) = p.coding

-- the raw number of an entry's field
abbrev pub raw_of : Database → List ℕ → ParameterEntry → ℤ
raw_of db packet e =
    let p = slice_get db.parameters e.parameter in raw_bits_at packet e.at (bits_of_parameter p) (coding_of p)

-- the raw value of an entry: its parameter and the raw number
abbrev pub raw_value_of : Database → List ℕ → ParameterEntry → RawValue
raw_value_of db packet e = record { parameter = e.parameter; raw = raw_of db packet e }

-- the engineering value of a raw one, by its parameter's calibration
abbrev pub eng_of : Database → RawValue → Eng
eng_of db v = calibrated (calibration_of db v.parameter) v.raw

-- a raw value with its engineering value
abbrev pub calibrated_value : Database → RawValue → ParameterValue
calibrated_value db v = record { parameter = v.parameter; raw = v.raw; eng = eng_of db v }

-- the value of an entry: its parameter, the raw number and the engineering value
abbrev pub value_of : Database → List ℕ → ParameterEntry → ParameterValue
value_of db packet e = record {
  parameter = e.parameter;
  raw = raw_of db packet e;
  eng = calibrated (calibration_of db e.parameter) (raw_of db packet e);
}

-- a raw value is that of a parameter of the database: its raw number has the width of the parameter's coding and bits
pub record IsRawValue (db : Database) (v : RawValue) : Type 0 where
  pub known : v.parameter < length db.parameters
  pub in_width : (p : Parameter) → slice_get db.parameters v.parameter ≡ Some p → IsInWidth p.coding p.bits v.raw

-- the value of a parameter among values, where it has one
abbrev pub value_among : ℕ → List ParameterValue → Option ParameterValue
value_among n values = find (λ v. v.parameter == n) values

-- the raw value of a parameter among raw values, where it has one
abbrev pub raw_among : ℕ → List RawValue → Option RawValue
raw_among n values = find (λ v. v.parameter == n) values

-- how a raw number compares with a number
abbrev pub compares : Operator → ℤ → ℤ → Bool
compares Equal raw number = int_eq raw number
compares NotEqual raw number = not (int_eq raw number)
compares Less raw number = int_lt raw number
compares LessOrEqual raw number = int_le raw number
compares Greater raw number = int_lt number raw
compares GreaterOrEqual raw number = int_le number raw

-- a comparison with a parameter that has no value is false
abbrev pub is_met : Comparison → Option RawValue → Bool
is_met c None = false
is_met c (Some v) = compares c.operator v.raw c.number

-- a condition holds of raw values where each comparison is met, and so where there is none
abbrev pub holds : List RawValue → List Comparison → Bool
holds values condition = list_all (λ c. is_met c (raw_among c.parameter values)) condition
