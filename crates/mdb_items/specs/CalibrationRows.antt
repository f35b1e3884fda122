-- The calibrations sheet: neighbouring rows of one name are one calibration.
use Rattle.std.specs.Prelude.{◌≡◌, ℕ, ◌+◌, ◌==◌, ◌&&◌, not, Bool, true, false, List, [], ◌∷◌, ◌++◌, map, take, fold, slice_get, Option, Some, None, is_some, option_map, if◌then◌else◌, nat_le, ℤ, int_lt}
use Rattle.std.specs.List.{list_any}
use Rattle.std.specs.Str.{bytes_eq}
use Rattle.text_forms.specs.Names.{is_name}
use Rattle.mdb_items.specs.declared.calibration.PointsRow.{PointsRow}
use Rattle.mdb_items.specs.declared.calibration.Calibrator.{Calibrator}
use Rattle.mdb_items.specs.declared.calibration.Calibrator.TheVariants.{Poly, Points, Enum}
use Rattle.mdb_items.specs.declared.calibration.Calibration.{Calibration}
use Rattle.mdb_items.specs.declared.rows.RowValues.{RowValues}
use Rattle.mdb_items.specs.declared.rows.RowValues.TheVariants.{Unread, Coefficient, Point, Label}
use Rattle.mdb_items.specs.Checks.{Checks, first_broken}
use Rattle.mdb_items.specs.Lists.{at_last, last_of}
use Rattle.mdb_items.specs.Numbers.{has_number, is_decimal, is_whole_number}
use Rattle.mdb_items.specs.Texts.{Text, is_label, place_of}

-- a row: the number of fields of its record, its name, and what its other columns say
pub record CalibrationRow : Type 0 where
  pub fields : ℕ
  pub name : Text
  pub row_values : RowValues

-- an exponent from 0 to 3
abbrev pub is_exponent : Option ℕ → Bool
is_exponent None = false
is_exponent (Some e) = nat_le e 3

-- the x that the kind asks for
abbrev pub has_x : RowValues → Bool
has_x Unread = false
has_x (Coefficient e y) = is_exponent e
has_x (Point x y) = is_whole_number x
has_x (Label x y) = is_whole_number x

-- the y that the kind asks for
abbrev pub has_y : RowValues → Bool
has_y Unread = false
has_y (Coefficient e y) = is_decimal y
has_y (Point x y) = is_decimal y
has_y (Label x y) = is_label y

-- the row's kind is none of poly, points and enum
abbrev pub is_unread : RowValues → Bool
is_unread Unread = true
is_unread (Coefficient e y) = false
is_unread (Point x y) = false
is_unread (Label x y) = false

-- the row is one of points
abbrev pub is_point : RowValues → Bool
is_point Unread = false
is_point (Coefficient e y) = false
is_point (Point x y) = true
is_point (Label x y) = false

-- the calibrator of a calibration that has the name
abbrev pub calibrator_named : Text → Option Calibration → Option Calibrator
calibrator_named name None = None
calibrator_named name (Some c) = if bytes_eq c.name name then Some c.calibrator else None

-- the rows so far of the calibration that a row of this name continues
abbrev pub continued : List Calibration → Text → Option Calibrator
continued above name = calibrator_named name (last_of above)

-- the values are of another kind than the rows above
abbrev pub is_other_kind : Option Calibrator → RowValues → Bool
is_other_kind None row_values = false
is_other_kind (Some (Poly rows)) (Coefficient e y) = false
is_other_kind (Some (Points rows)) (Point x y) = false
is_other_kind (Some (Enum rows)) (Label x y) = false
is_other_kind (Some calibrator) row_values = true

-- the number isn't above the last point's
abbrev pub is_not_above : ℤ → Option PointsRow → Bool
is_not_above x None = false
is_not_above x (Some point) = not (int_lt point.x x)

-- x repeats, or doesn't rise in points
abbrev pub repeats : Option Calibrator → RowValues → Bool
repeats (Some (Poly rows)) (Coefficient (Some e) y) = list_any (λ r. r.exponent == e) rows
repeats (Some (Points rows)) (Point (Some x) y) = is_not_above x (last_of rows)
repeats (Some (Enum rows)) (Label (Some x) y) = has_number x (map (λ r. r.x) rows)
repeats calibrator row_values = false

-- the next record has the name
abbrev pub is_named : Text → Option Text → Bool
is_named name None = false
is_named name (Some next) = bytes_eq next name

-- the rules of a row below the calibrations above it, before a record whose first field is `next`
abbrev pub calibration_checks : List Calibration → CalibrationRow → Option Text → Checks
calibration_checks above row next =
    -- the record hasn't four fields
    (2, not (row.fields == 4))
    -- the name isn't a name
    ∷ (3, not (is_name row.name))
    -- the name began an earlier group of rows
    ∷ (5, not (is_some (continued above row.name)) && is_some (place_of row.name (map (λ c. c.name) above)))
    -- the kind isn't poly, points or enum
    ∷ (4, is_unread row.row_values)
    -- the kind isn't that of the calibration's first row
    ∷ (6, is_other_kind (continued above row.name) row.row_values)
    -- x isn't an exponent from 0 to 3, in points and enum a whole number
    ∷ (7, not (has_x row.row_values))
    -- x repeats, or doesn't rise in points
    ∷ (8, repeats (continued above row.name) row.row_values)
    -- y isn't a decimal, in enum a label
    ∷ (9, not (has_y row.row_values))
    -- points have one row alone
    ∷ (10, is_point row.row_values && not (is_some (continued above row.name)) && not (is_named row.name next))
    ∷ []

-- a calibrator with one more row, where the values are of its kind and whole
abbrev pub calibrator_with_row : Calibrator → RowValues → Calibrator
calibrator_with_row (Poly rows) (Coefficient (Some e) (Some m)) = Poly (rows ++ record { exponent = e; millionths = m } ∷ [])
calibrator_with_row (Points rows) (Point (Some x) (Some m)) = Points (rows ++ record { x = x; millionths = m } ∷ [])
calibrator_with_row (Enum rows) (Label (Some x) label) = Enum (rows ++ record { x = x; label = label } ∷ [])
calibrator_with_row calibrator row_values = calibrator

-- the empty calibrator of the values' kind
abbrev pub empty_calibrator : RowValues → Calibrator
empty_calibrator Unread = Poly []
empty_calibrator (Coefficient e y) = Poly []
empty_calibrator (Point x y) = Points []
empty_calibrator (Label x y) = Enum []

-- the calibrations with one more, where the row's name isn't the last one's; it has no row yet
abbrev pub with_name : List Calibration → Text → RowValues → List Calibration
with_name above name row_values = if is_some (continued above name) then above else above ++ record { name = name; calibrator = empty_calibrator row_values } ∷ []

-- the calibration with one more row
abbrev pub with_new_row : RowValues → Calibration → Calibration
with_new_row row_values c = record { name = c.name; calibrator = calibrator_with_row c.calibrator row_values }

-- the calibrations with one more row
abbrev pub with_calibration_row : List Calibration → CalibrationRow → List Calibration
with_calibration_row above row = at_last (with_new_row row.row_values) (with_name above row.name row.row_values)

-- the calibrations that rows spell
abbrev pub calibrations_of : List CalibrationRow → List Calibration
calibrations_of rows = fold with_calibration_row [] rows

-- the first rule that a row breaks
abbrev pub calibration_fault : List Calibration → Option CalibrationRow → Option CalibrationRow → Option ℕ
calibration_fault above None next = None
calibration_fault above (Some row) next = first_broken (calibration_checks above row (option_map (λ r. r.name) next))

-- the first rule that the row at a place breaks
unfoldable pub calibration_fault_at : List CalibrationRow → ℕ → Option ℕ
calibration_fault_at rows i = calibration_fault (calibrations_of (take i rows)) (slice_get rows i) (slice_get rows (i + 1))

-- the rows of a calibrator
abbrev pub row_values_of : Calibrator → List RowValues
row_values_of (Poly rows) = map (λ r. Coefficient (Some r.exponent) (Some r.millionths)) rows
row_values_of (Points rows) = map (λ r. Point (Some r.x) (Some r.millionths)) rows
row_values_of (Enum rows) = map (λ r. Label (Some r.x) r.label) rows

-- the rows that spell a calibration, each with its name
abbrev pub rows_of_calibration : Calibration → List CalibrationRow
rows_of_calibration c = map (λ row_values. record { fields = 4; name = c.name; row_values = row_values }) (row_values_of c.calibrator)

-- the raw numbers of an enum
abbrev pub enum_numbers : Option Calibrator → List ℤ
enum_numbers None = []
enum_numbers (Some (Poly rows)) = []
enum_numbers (Some (Points rows)) = []
enum_numbers (Some (Enum rows)) = map (λ r. r.x) rows

-- the calibrator of the last calibration, where there is one
abbrev pub calibrator_of_last : Option Calibration → Option Calibrator
calibrator_of_last None = None
calibrator_of_last (Some c) = Some c.calibrator

-- the raw number of an enum's row
abbrev pub label_number : RowValues → List ℤ
label_number Unread = []
label_number (Coefficient e y) = []
label_number (Point x y) = []
label_number (Label None y) = []
label_number (Label (Some x) y) = x ∷ []

-- the raw number of an enum's row isn't among these
abbrev pub AreNew : List ℤ → RowValues → Type 0
AreNew numbers Unread = Unit {0}
AreNew numbers (Coefficient e y) = Unit {0}
AreNew numbers (Point x y) = Unit {0}
AreNew numbers (Label None y) = Unit {0}
AreNew numbers (Label (Some x) y) = has_number x numbers ≡ false
