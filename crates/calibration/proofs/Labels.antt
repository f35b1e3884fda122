-- The labels of enumerations.
use Rattle.std.proofs.Common.{◌≡◌, ◌<◌, ℕ, Option, Some, None, true, refl, arith}
use Rattle.std.specs.Prelude.{◌^◌, ℤ}
use Rattle.std.specs.Ordering.{int_eq}
use Rattle.mdb_items.specs.declared.calibration.Calibration.{Calibration}
use Rattle.mdb_items.specs.declared.calibration.EnumRow.{EnumRow}
use Rattle.mdb_items.specs.declared.calibration.Calibrator.{Calibrator}
use Rattle.mdb_items.specs.declared.calibration.Calibrator.TheVariants.{Poly, Points, Enum}
use Rattle.mdb_items.specs.ParameterRows.{calibrator_of_calibration}
use Rattle.mdb_lookups.specs.LabelOrder.{label_row, label_row_by, labels_of_calibrator}
use Rattle.calibration.specs.Admitted.{IsAdmitted, KeepsRules}
use Rattle.calibration.specs.Calibrated.{calibrated, is_enum, is_enumeration, label_at, value_by}
use Rattle.calibration.proofs.Admission.{place_within}

row_of_calibrator : (t : Calibrator) (raw : ℤ) (n : ℕ) → KeepsRules (Some t) → label_row (labels_of_calibrator t) raw ≡ Some n → n < 2 ^ 16
row_of_calibrator (Poly rows) raw n keeps is = cc
row_of_calibrator (Points points) raw n keeps is = cc
row_of_calibrator (Enum rows) raw n keeps is = let within = place_within (λ (row : EnumRow). int_eq row.x raw) rows n is in omega (arith, keeps, within)

row_by : (o : Option Calibration) (raw : ℤ) (n : ℕ) → KeepsRules (calibrator_of_calibration o) → label_row_by o raw ≡ Some n → n < 2 ^ 16
row_by None raw n keeps is = cc
row_by (Some c) raw n keeps is = row_of_calibrator c.calibrator raw n keeps is

-- the number of a label's row fits 16 bits
pub row_within : (o : Option Calibration) (raw : ℤ) (n : ℕ) → IsAdmitted o raw → label_row_by o raw ≡ Some n → n < 2 ^ 16
row_within o raw n is at = row_by o raw n is.rules at

label_of_calibrator : (t : Calibrator) (raw : ℤ) → is_enum t ≡ true → label_at (label_row (labels_of_calibrator t) raw) ≡ value_by t raw
label_of_calibrator (Poly rows) raw is = cc
label_of_calibrator (Points points) raw is = cc
label_of_calibrator (Enum rows) raw is = refl

-- an enumeration gives the label of the row
pub label_by : (o : Option Calibration) (raw : ℤ) → is_enumeration o ≡ true → label_at (label_row_by o raw) ≡ calibrated o raw
label_by None raw is = cc
label_by (Some c) raw is = label_of_calibrator c.calibrator raw is
