-- The labels of a mission database are short.
use Rattle.std.proofs.Common.{◌≡◌, ◌≤◌, ℕ, List, [], ◌∷◌, length, true, Option, Some, None, refl, arith}
use Rattle.std.specs.Prelude.{slice_get}
use Rattle.std.specs.List.{AllByRecursion}
use Rattle.mdb_items.specs.declared.calibration.Calibration.{Calibration}
use Rattle.mdb_items.specs.declared.calibration.EnumRow.{EnumRow}
use Rattle.mdb_items.specs.declared.calibration.Calibrator.{Calibrator}
use Rattle.mdb_items.specs.declared.calibration.Calibrator.TheVariants.{Poly, Points, Enum}
use Rattle.mdb_items.specs.declared.parameter.Parameter.{Parameter}
use Rattle.mdb_items.specs.Database.{Database, IsDatabase}
use Rattle.mdb_items.specs.Structure.{IsLabelled, IsCalibrator}
use Rattle.mdb_items.specs.Texts.{is_label}
use Rattle.mdb_lookups.specs.Lookups.{calibration_numbered, calibration_of, calibration_of_parameter}
use Rattle.mdb_model.proofs.Structure.{structured}
use Rattle.retrieval.specs.CellText.{HasShortLabels, rows_of_calibrator}

label_short : (label : List ℕ) → is_label label ≡ true → length label ≤ 64
label_short label is = grind arith

rows_short : (rows : List EnumRow) → AllByRecursion IsLabelled rows → AllByRecursion (λ (row : EnumRow). length row.label ≤ 64) rows
rows_short [] all = tt
rows_short (row ∷ rows) all = (label_short row.label all.0.1, rows_short rows all.1)

calibrator_short : (t : Calibrator) → IsCalibrator t → AllByRecursion (λ (row : EnumRow). length row.label ≤ 64) (rows_of_calibrator t)
calibrator_short (Poly rows) is = tt
calibrator_short (Points rows) is = tt
calibrator_short (Enum rows) is = rows_short rows is.each

short_at : (db : Database) (n : ℕ) (o : Option Calibration) → IsDatabase db → slice_get db.calibrations n ≡ o → HasShortLabels o
short_at db n None is at = tt
short_at db n (Some c) is at = calibrator_short c.calibrator ((structured db is).calibrations n c at).rows

number_labels : (db : Database) (number : Option ℕ) → IsDatabase db → HasShortLabels (calibration_numbered db.calibrations number)
number_labels db None is = tt
number_labels db (Some n) is = short_at db n (slice_get db.calibrations n) is refl

parameter_labels : (db : Database) (p : Option Parameter) → IsDatabase db → HasShortLabels (calibration_of_parameter db.calibrations p)
parameter_labels db None is = tt
parameter_labels db (Some p) is = number_labels db p.calibration is

-- the labels of a parameter's calibration are short enough for a line
pub short_labels : (db : Database) (number : ℕ) → IsDatabase db → HasShortLabels (calibration_of db number)
short_labels db number is = parameter_labels db (slice_get db.parameters number) is
