-- Rows taken in one after the other, below what those before them spell.
use Rattle.std.specs.Prelude.{◌≡◌, ◌<◌, ◌&&◌, ℕ, Bool, true, false, List, [], ◌∷◌, ◌++◌, map, flat_map, fold, slice_get, option_map, is_none, Option, None, Result, Ok, Err}
use Rattle.mdb_items.specs.declared.calibration.Calibration.{Calibration}
use Rattle.mdb_rules.specs.declared.calibration_rows.Calibrations.{Calibrations}
use Rattle.mdb_items.specs.declared.container.Container.{Container}
use Rattle.mdb_rules.specs.declared.container_rows.Containers.{Containers}
use Rattle.mdb_items.specs.declared.fault.MdbFault.{MdbFault}
use Rattle.mdb_items.specs.declared.fault.MdbFault.TheVariants.{Bad, Limit, OutOfMemory}
use Rattle.mdb_items.specs.declared.parameter.Parameter.{Parameter}
use Rattle.mdb_rules.specs.declared.parameter_rows.Parameters.{Parameters}
use Rattle.mdb_items.specs.declared.rows.RowValues.{RowValues}
use Rattle.mdb_items.specs.declared.rows.ParameterRow.{ParameterRow}
use Rattle.mdb_items.specs.CalibrationRows.{CalibrationRow, calibration_checks, calibrations_of, rows_of_calibration, with_calibration_row}
use Rattle.mdb_items.specs.Checks.{first_broken}
use Rattle.mdb_items.specs.ContainerRows.{ContainerRow, containers_of, row_fault, rows_of_container, with_container_row}
use Rattle.mdb_items.specs.Database.{Database, IsDatabase, calibrator_len}
use Rattle.mdb_items.specs.ParameterRows.{parameter_checks, parameter_of, row_of_parameter}
use Rattle.mdb_rules.specs.Totals.{HasPaths}
use Rattle.mdb_rules.specs.Steps.{IsInStep}
use Rattle.mdb_items.specs.Texts.{Text}
use Rattle.octet_fields.specs.declared.fault.DecodeError.{DecodeError}
use Rattle.octet_fields.specs.declared.fault.DecodeError.TheVariants as errors

-- no row is at fault below what those before it come to
unfoldable pub are_sound : {S R : Type 0} → (S → R → List R → Option ℕ) → (S → R → S) → S → List R → Bool
are_sound fault step above [] = true
are_sound fault step above (row ∷ rows) = is_none (fault above row rows) && are_sound fault step (step above row) rows

-- a refusal for want of memory says nothing, any other that P
abbrev pub Refused : DecodeError → Type 0 → Type 0
Refused errors.OutOfMemory P = Unit {0}
Refused errors.Malformed P = P

-- how octets are refused whose lists make no database
abbrev pub refusal : MdbFault → DecodeError
refusal (Bad sheet row rule) = errors.Malformed
refusal (Limit which number) = errors.Malformed
refusal OutOfMemory = errors.OutOfMemory

-- ---- calibrations

-- a row of a calibration of this name
abbrev pub row_with : Text → RowValues → CalibrationRow
row_with name row_values = record { fields = 4; name = name; row_values = row_values }

-- the name of the first of rows
abbrev pub first_name : List CalibrationRow → Option Text
first_name rows = option_map (λ r. r.name) (slice_get rows 0)

-- the first rule that a row breaks below calibrations and before these rows
abbrev pub calibration_fault_before : List Calibration → CalibrationRow → List CalibrationRow → Option ℕ
calibration_fault_before above row rows = first_broken (calibration_checks above row (first_name rows))

-- no row breaks a rule of the calibrations sheet
abbrev pub calibrations_sound : List Calibration → List CalibrationRow → Bool
calibrations_sound above rows = are_sound calibration_fault_before with_calibration_row above rows

-- a calibration isn't empty
abbrev pub HasRows : Calibration → Type 0
HasRows c = 0 < calibrator_len c.calibrator

-- one row taken in: it breaks no rule and is added, or it breaks one
abbrev pub CalibrationRowRechecked : Calibrations → Calibrations → CalibrationRow → Option Text → Result (Unit {0}) DecodeError → Type 0
CalibrationRowRechecked old new row next (Ok _) = (first_broken (calibration_checks old.items.items row next) ≡ None) × (new.items.items ≡ with_calibration_row old.items.items row) × IsInStep new
CalibrationRowRechecked old new row next (Err e) = Refused e (is_none (first_broken (calibration_checks old.items.items row next)) ≡ false)

-- whatever rows come after them, the next of which has the name
abbrev pub CalibrationRechecked : Calibrations → Calibrations → Calibration → Option Text → Result (Unit {0}) DecodeError → Type 0
CalibrationRechecked old new c next (Ok _) =
    ((more : List CalibrationRow) → first_name more ≡ next → calibrations_sound old.items.items (rows_of_calibration c ++ more) ≡ calibrations_sound new.items.items more)
    × (new.items.items ≡ fold with_calibration_row old.items.items (rows_of_calibration c)) × IsInStep new
CalibrationRechecked old new c next (Err e) = Refused e ((more : List CalibrationRow) → first_name more ≡ next → calibrations_sound old.items.items (rows_of_calibration c ++ more) ≡ false)

-- calibrations checked again: the rows that spell them are sound and give these, or aren't
abbrev pub CalibrationsRechecked : List Calibration → Result Calibrations DecodeError → Type 0
CalibrationsRechecked given (Ok c) =
    let rows = flat_map rows_of_calibration given in
    (calibrations_sound [] rows ≡ true) × (c.items.items ≡ calibrations_of rows) × IsInStep c
CalibrationsRechecked given (Err e) = Refused e (calibrations_sound [] (flat_map rows_of_calibration given) ≡ false)

-- ---- parameters

-- the first rule that a row breaks below calibrations and parameters
abbrev pub parameter_fault_below : List Calibration → List Parameter → ParameterRow → List ParameterRow → Option ℕ
parameter_fault_below calibrations above row rows = first_broken (parameter_checks calibrations above row)

-- the parameters with that of one more row
abbrev pub with_parameter_row : List Parameter → ParameterRow → List Parameter
with_parameter_row above row = above ++ parameter_of row ∷ []

-- no row breaks a rule of the parameters sheet
abbrev pub parameters_sound : List Calibration → List Parameter → List ParameterRow → Bool
parameters_sound calibrations above rows = are_sound (parameter_fault_below calibrations) with_parameter_row above rows

-- one parameter taken in: it breaks no rule and is added, or it breaks one
abbrev pub ParameterRechecked : List Calibration → Parameters → Parameters → Parameter → Result (Unit {0}) DecodeError → Type 0
ParameterRechecked calibrations old new p (Ok _) =
    (first_broken (parameter_checks calibrations old.items.items (row_of_parameter p)) ≡ None) × (new.items.items ≡ old.items.items ++ p ∷ []) × (new.names ≡ map (λ x. x.name) new.items.items)
ParameterRechecked calibrations old new p (Err e) = Refused e (is_none (first_broken (parameter_checks calibrations old.items.items (row_of_parameter p))) ≡ false)

-- parameters checked again: the rows that spell them are sound and give these, or aren't
abbrev pub ParametersRechecked : List Calibration → List Parameter → Result Parameters DecodeError → Type 0
ParametersRechecked calibrations given (Ok p) =
    (parameters_sound calibrations [] (map row_of_parameter given) ≡ true) × (p.items.items ≡ given) × (p.names ≡ map (λ x. x.name) p.items.items)
ParametersRechecked calibrations given (Err e) = Refused e (parameters_sound calibrations [] (map row_of_parameter given) ≡ false)

-- ---- containers

-- the first rule that a row breaks below parameters and containers
abbrev pub container_fault_below : List Parameter → List Container → ContainerRow → List ContainerRow → Option ℕ
container_fault_below parameters above row rows = row_fault parameters above row

-- no row breaks a rule of the containers sheet
abbrev pub containers_sound : List Parameter → List Container → List ContainerRow → Bool
containers_sound parameters above rows = are_sound (container_fault_below parameters) with_container_row above rows

-- whatever rows come after them
abbrev pub RowsRechecked : List Parameter → Containers → Containers → List ContainerRow → Result (Unit {0}) DecodeError → Type 0
RowsRechecked parameters old new rows (Ok _) =
    ((more : List ContainerRow) → containers_sound parameters old.items.items (rows ++ more) ≡ containers_sound parameters new.items.items more)
    × (new.items.items ≡ fold with_container_row old.items.items rows) × HasPaths parameters new
RowsRechecked parameters old new rows (Err e) = Refused e ((more : List ContainerRow) → containers_sound parameters old.items.items (rows ++ more) ≡ false)

-- containers checked again: the rows that spell them are sound and give these, or aren't
abbrev pub ContainersRechecked : List Parameter → List Container → Result Containers DecodeError → Type 0
ContainersRechecked parameters given (Ok c) =
    let rows = flat_map rows_of_container given in
    (containers_sound parameters [] rows ≡ true) × (c.items.items ≡ containers_of rows) × HasPaths parameters c
ContainersRechecked parameters given (Err e) = Refused e (containers_sound parameters [] (flat_map rows_of_container given) ≡ false)

-- ---- the three lists

-- the database of these lists, where it is one; for want of memory nothing is said
abbrev pub ListsRechecked : Database → Result Database DecodeError → Type 0
ListsRechecked given (Ok d) = IsDatabase d × (IsDatabase given → d ≡ given)
ListsRechecked given (Err e) = Refused e (IsDatabase given → ⊥)
