-- The labels of calibrations in the order of their raw numbers.
use Rattle.std.specs.Prelude.{◌≡◌, ℕ, ℤ, pos, List, [], length, map, slice_get, Option, Some, None}
use Rattle.std.specs.List.{position}
use Rattle.std.specs.Ordering.{int_cmp, int_eq}
use Rattle.mdb_items.specs.declared.calibration.Calibration.{Calibration}
use Rattle.mdb_items.specs.declared.calibration.EnumRow.{EnumRow}
use Rattle.mdb_items.specs.declared.calibration.Calibrator.{Calibrator}
use Rattle.mdb_items.specs.declared.calibration.Calibrator.TheVariants.{Poly, Points, Enum}
use Rattle.mdb_lookups.specs.SortedKeys.{AreKeysSorted}

-- the labels of a calibrator: a polynomial and points have none
abbrev pub labels_of_calibrator : Calibrator → List EnumRow
labels_of_calibrator (Poly rows) = []
labels_of_calibrator (Points points) = []
labels_of_calibrator (Enum rows) = rows

-- the row of the label of a raw number, counted from 0, where there is one
abbrev pub label_row : List EnumRow → ℤ → Option ℕ
label_row labels raw = position (λ row. int_eq row.x raw) labels

-- the row of the label that a calibration gives a raw number, where it gives one
abbrev pub label_row_by : Option Calibration → ℤ → Option ℕ
label_row_by None raw = None
label_row_by (Some calibration) raw = label_row (labels_of_calibrator calibration.calibrator) raw

-- the raw numbers of labels with their rows, sorted
abbrev pub AreLabelsSorted : List EnumRow → List (ℤ × ℕ) → Type 0
AreLabelsSorted labels numbered = AreKeysSorted int_cmp (pos 0) (map (λ row. row.x) labels) numbered

-- a list for each calibration: the raw numbers of its labels with their rows, sorted
pub record AreLabelOrders (calibrations : List Calibration) (orders : List (List (ℤ × ℕ))) : Type 0 where
  pub count : length orders ≡ length calibrations
  pub each : (n : ℕ) (order : List (ℤ × ℕ)) → slice_get orders n ≡ Some order
      → (c : Calibration) → slice_get calibrations n ≡ Some c → AreLabelsSorted (labels_of_calibrator c.calibrator) order
