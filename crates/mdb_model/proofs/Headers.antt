-- A sheet's header, and then its rows.
use Rattle.std.proofs.Common.{◌≡◌, ◌∙◌, List, [], ◌∷◌, length, map, drop, Option, Some, Result, Ok, Err, Bool, true, false, refl, ap, sym, arith, subst}
use Rattle.std.specs.Prelude.{slice_get}
use Rattle.std.proofs.lemmas.Option.{same_Some}
use Rattle.mdb_items.specs.declared.calibration.Calibration.{Calibration}
use Rattle.mdb_rules.specs.declared.calibration_rows.Calibrations.{Calibrations}
use Rattle.mdb_rules.specs.declared.container_rows.Containers.{Containers}
use Rattle.mdb_items.specs.declared.fault.MdbFault.{MdbFault}
use Rattle.mdb_items.specs.declared.fault.MdbSheet.{MdbSheet}
use Rattle.mdb_items.specs.declared.fault.MdbSheet.TheVariants as sheet
use Rattle.mdb_items.specs.declared.parameter.Parameter.{Parameter}
use Rattle.mdb_rules.specs.declared.parameter_rows.Parameters.{Parameters}
use Rattle.mdb_items.specs.Database.{Broken, calibrations_fault, containers_fault, parameters_fault}
use Rattle.mdb_model.specs.SheetResults.{IsCalibrationSheetResult, IsContainerSheetResult, IsParameterSheetResult}
use Rattle.mdb_model.specs.Sheets.{is_calibration_header, is_container_header, is_parameter_header, read_calibration, read_containers, read_parameter, sheet_fault}
use Rattle.mdb_rules.specs.Steps.{IsCalibrationsResult, IsContainersResult, IsParametersResult, Refuses}
use Rattle.mdb_items.specs.Texts.{Text}

-- without a record the header is missing
pub headless : (s : MdbSheet) (test : List Text → Bool) (records : List (List Text)) (fault : Option Broken) → length records ≡ 0 → sheet_fault s test records fault ≡ Some (record { sheet = s; row = 1; rule = 1 })
headless s test [] fault none = refl
headless s test (r ∷ records) fault none = absurd (omega arith)

pub bad_header : (s : MdbSheet) (test : List Text → Bool) (records : List (List Text)) (fault : Option Broken) (header : List Text) → slice_get records 0 ≡ Some header → test header ≡ false → sheet_fault s test records fault ≡ Some (record { sheet = s; row = 1; rule = 1 })
bad_header s test [] fault header at is = cc
bad_header s test (r ∷ records) fault header at is = let here : test r ≡ false = ap test (same_Some r header at) ∙ is in rw here refl

pub good_header : (s : MdbSheet) (test : List Text → Bool) (records : List (List Text)) (fault : Option Broken) (header : List Text) → slice_get records 0 ≡ Some header → test header ≡ true → sheet_fault s test records fault ≡ fault
good_header s test [] fault header at is = cc
good_header s test (r ∷ records) fault header at is = let here : test r ≡ true = ap test (same_Some r header at) ∙ is in rw here refl

same_refusal : (a b : Option Broken) (f : MdbFault) → a ≡ b → Refuses b f → Refuses a f
same_refusal a b f same e = let P : Option Broken → Type 0 = λ x. Refuses x f in subst P (sym same) e

pub given_calibrations : (records : List (List Text)) (header : List Text) (r : Result Calibrations MdbFault) → slice_get records 0 ≡ Some header → is_calibration_header header ≡ true → IsCalibrationsResult (map read_calibration (drop 1 records)) r → IsCalibrationSheetResult records r
given_calibrations records header (Ok c) at is e = (good_header sheet.Calibrations is_calibration_header records (calibrations_fault (map read_calibration (drop 1 records))) header at is ∙ e.0, e.0, e.1, e.2)
given_calibrations records header (Err f) at is e =
    let fault = calibrations_fault (map read_calibration (drop 1 records)) in
    same_refusal (sheet_fault sheet.Calibrations is_calibration_header records fault) fault f (good_header sheet.Calibrations is_calibration_header records fault header at is) e

pub given_parameters : (cs : List Calibration) (names : List Text) (records : List (List Text)) (header : List Text) (r : Result Parameters MdbFault) → slice_get records 0 ≡ Some header → is_parameter_header header ≡ true
    → IsParametersResult cs (map (read_parameter names) (drop 1 records)) r → IsParameterSheetResult cs names records r
given_parameters cs names records header (Ok p) at is e = (good_header sheet.Parameters is_parameter_header records (parameters_fault cs (map (read_parameter names) (drop 1 records))) header at is ∙ e.0, e.0, e.1, e.2)
given_parameters cs names records header (Err f) at is e =
    let fault = parameters_fault cs (map (read_parameter names) (drop 1 records)) in
    same_refusal (sheet_fault sheet.Parameters is_parameter_header records fault) fault f (good_header sheet.Parameters is_parameter_header records fault header at is) e

pub given_containers : (ps : List Parameter) (records : List (List Text)) (header : List Text) (r : Result Containers MdbFault) → slice_get records 0 ≡ Some header → is_container_header header ≡ true
    → IsContainersResult ps (read_containers ps [] (drop 1 records)) r → IsContainerSheetResult ps records r
given_containers ps records header (Ok c) at is e = (good_header sheet.Containers is_container_header records (containers_fault ps (read_containers ps [] (drop 1 records))) header at is ∙ e.0, e.0, e.1, e.2)
given_containers ps records header (Err f) at is e =
    let fault = containers_fault ps (read_containers ps [] (drop 1 records)) in
    same_refusal (sheet_fault sheet.Containers is_container_header records fault) fault f (good_header sheet.Containers is_container_header records fault header at is) e
