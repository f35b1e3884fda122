-- The engineering value of a raw number.
use Rattle.std.specs.Prelude.{ℕ, Bool, true, false, List, take, fold, slice_get, Option, Some, None, ℤ, pos, ◌+ℤ◌, ◌-ℤ◌, ◌*ℤ◌, int_le}
use Rattle.std.specs.Int.{int_pow, int_div_euclid}
use Rattle.std.specs.List.{position, prefix_len}
use Rattle.std.specs.Ordering.{int_eq}
use Rattle.arch_types.specs.declared.cell.Eng.{Eng}
use Rattle.arch_types.specs.declared.cell.Eng.TheVariants.{Whole, Fixed, Label, Undef}
use Rattle.mdb_items.specs.declared.calibration.Calibration.{Calibration}
use Rattle.mdb_items.specs.declared.calibration.PointsRow.{PointsRow}
use Rattle.mdb_items.specs.declared.calibration.PolyRow.{PolyRow}
use Rattle.mdb_items.specs.declared.calibration.Calibrator.{Calibrator}
use Rattle.mdb_items.specs.declared.calibration.Calibrator.TheVariants.{Poly, Points, Enum}
use Rattle.mdb_items.specs.Lists.{last_of}

-- a coefficient times its power of the raw number, in millionths
abbrev pub term : ℤ → PolyRow → ℤ
term raw row = row.millionths *ℤ int_pow raw row.exponent

-- the sum of a_k * raw^k over the coefficients that are given, in millionths
abbrev pub polynomial : List PolyRow → ℤ → ℤ
polynomial rows raw = fold (λ sum row. sum +ℤ term raw row) (pos 0) rows

-- on the line through two points: y0 + (y1 - y0) * (raw - x0) / (x1 - x0), the quotient rounded down
abbrev pub on_line : PointsRow → PointsRow → ℤ → ℤ
on_line p q raw = p.millionths +ℤ int_div_euclid ((q.millionths -ℤ p.millionths) *ℤ (raw -ℤ p.x)) (q.x -ℤ p.x)

-- between the last point reached and the next one on their line, and outside the points the nearer end's y
abbrev pub between_points : Option PointsRow → Option PointsRow → ℤ → ℤ
between_points None None raw = pos 0
between_points None (Some q) raw = q.millionths
between_points (Some p) None raw = p.millionths
between_points (Some p) (Some q) raw = on_line p q raw

-- how many of rising points stand at or below the raw number
abbrev pub reached : List PointsRow → ℤ → ℕ
reached points raw = prefix_len (λ p. int_le p.x raw) points

-- the value at a raw number of a line through points, in millionths
abbrev pub on_points : List PointsRow → ℤ → ℤ
on_points points raw = between_points (last_of (take (reached points raw) points)) (slice_get points (reached points raw)) raw

-- the row of a label, or none
abbrev pub label_at : Option ℕ → Eng
label_at None = Undef
label_at (Some row) = Label row

-- the value that a calibrator gives a raw number
abbrev pub value_by : Calibrator → ℤ → Eng
value_by (Poly rows) raw = Fixed (polynomial rows raw)
value_by (Points points) raw = Fixed (on_points points raw)
value_by (Enum rows) raw = label_at (position (λ row. int_eq row.x raw) rows)

-- the engineering value of a raw number: without a calibration it is the raw number itself
abbrev pub calibrated : Option Calibration → ℤ → Eng
calibrated None raw = Whole
calibrated (Some calibration) raw = value_by calibration.calibrator raw

-- the calibrator is an enumeration
abbrev pub is_enum : Calibrator → Bool
is_enum (Poly rows) = false
is_enum (Points points) = false
is_enum (Enum rows) = true

-- the calibration is an enumeration
abbrev pub is_enumeration : Option Calibration → Bool
is_enumeration None = false
is_enumeration (Some calibration) = is_enum calibration.calibrator
