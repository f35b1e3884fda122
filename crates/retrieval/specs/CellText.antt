-- The line of a cell.
use Rattle.std.specs.Prelude.{ℕ, ℤ, pos, ◌+◌, ◌/◌, ◌%◌, ◌≤◌, List, [], ◌++◌, drop, length, slice_get, Option, Some, None, codes, decimal, unsigned_abs, int_lt, if◌then◌else◌}
use Rattle.std.specs.Fmt.{signed_decimal}
use Rattle.std.specs.List.{AllByRecursion}
use Rattle.arch_types.specs.declared.cell.Cell.{Cell}
use Rattle.arch_types.specs.declared.cell.Eng.{Eng}
use Rattle.arch_types.specs.declared.cell.Eng.TheVariants.{Whole, Fixed, Label, Undef}
use Rattle.mdb_items.specs.declared.calibration.Calibration.{Calibration}
use Rattle.mdb_items.specs.declared.calibration.EnumRow.{EnumRow}
use Rattle.mdb_items.specs.declared.calibration.Calibrator.{Calibrator}
use Rattle.mdb_items.specs.declared.calibration.Calibrator.TheVariants.{Poly, Points, Enum}

-- `-` before a negative number
abbrev pub sign_text : ℤ → List ℕ
sign_text number = if int_lt number (pos 0) then codes "-" else []

-- the six digits of a number below a million: those of the number above a million, but for the first
abbrev pub six_digits : ℕ → List ℕ
six_digits number = drop 1 (decimal (1000000 + number))

-- millionths as a decimal with six digits behind the point
abbrev pub fixed_text : ℤ → List ℕ
fixed_text millionths =
    sign_text millionths ++ decimal (unsigned_abs millionths / 1000000) ++ codes "." ++ six_digits (unsigned_abs millionths % 1000000)

-- the rows of an enumeration
abbrev pub rows_of_calibrator : Calibrator → List EnumRow
rows_of_calibrator (Poly rows) = []
rows_of_calibrator (Points rows) = []
rows_of_calibrator (Enum rows) = rows

-- the rows of an enumeration; none of any other calibration
abbrev pub labels_of : Option Calibration → List EnumRow
labels_of None = []
labels_of (Some calibration) = rows_of_calibrator calibration.calibrator

-- a label's text, UNDEF where there is none
abbrev pub label_text : Option EnumRow → List ℕ
label_text None = codes "UNDEF"
label_text (Some row) = row.label

-- an engineering value: the raw number, a decimal, or a label
abbrev pub eng_text : Option Calibration → ℤ → Eng → List ℕ
eng_text calibration raw Whole = signed_decimal raw
eng_text calibration raw (Fixed millionths) = fixed_text millionths
eng_text calibration raw (Label row) = label_text (slice_get (labels_of calibration) row)
eng_text calibration raw Undef = codes "UNDEF"

-- the octets that an engineering value takes at most
abbrev pub longest_eng : ℕ
longest_eng = 82

-- the line of a cell of a parameter with this calibration: its time, its number, its raw number and its engineering value
abbrev pub cell_line : Option Calibration → Cell → List ℕ
cell_line calibration cell =
    codes "cell " ++ signed_decimal cell.key.time ++ codes " " ++ decimal cell.key.seq ++ codes " " ++ signed_decimal cell.raw ++ codes " " ++
    eng_text calibration cell.raw cell.eng ++ codes "\n"

-- the labels are short enough for a line
abbrev pub HasShortLabels : Option Calibration → Type 0
HasShortLabels calibration = AllByRecursion (λ row. length row.label ≤ 64) (labels_of calibration)
