-- What the sheets give one by one.
use Rattle.std.specs.Prelude.{◌≡◌, List, [], map, drop, Some, None, Result, Ok, Err}
use Rattle.mdb_items.specs.declared.calibration.Calibration.{Calibration}
use Rattle.mdb_rules.specs.declared.calibration_rows.Calibrations.{Calibrations}
use Rattle.mdb_rules.specs.declared.container_rows.Containers.{Containers}
use Rattle.mdb_items.specs.declared.fault.MdbFault.{MdbFault}
use Rattle.mdb_items.specs.declared.fault.MdbFault.TheVariants.{Bad, Limit, OutOfMemory}
use Rattle.mdb_items.specs.declared.fault.MdbSheet.TheVariants as sheet
use Rattle.mdb_items.specs.declared.parameter.Parameter.{Parameter}
use Rattle.mdb_rules.specs.declared.parameter_rows.Parameters.{Parameters}
use Rattle.mdb_items.specs.CalibrationRows.{calibrations_of}
use Rattle.mdb_items.specs.ContainerRows.{containers_of}
use Rattle.mdb_items.specs.Database.{Database, Rows, calibrations_fault, containers_fault, database_of, first_fault, limit_passed, parameters_fault}
use Rattle.mdb_items.specs.ParameterRows.{parameters_of}
use Rattle.mdb_model.specs.Sheets.{is_calibration_header, is_container_header, is_parameter_header, read_calibration, read_containers, read_parameter, sheet_fault}
use Rattle.mdb_rules.specs.Totals.{HasPaths}
use Rattle.mdb_items.specs.Paths.{AreEarlier}
use Rattle.mdb_rules.specs.Steps.{IsInStep, Refuses}
use Rattle.mdb_items.specs.Texts.{Text}

-- the calibrations that the records of a sheet spell, header first, or the first rule that they break
abbrev pub IsCalibrationSheetResult : List (List Text) → Result Calibrations MdbFault → Type 0
IsCalibrationSheetResult records (Ok c) =
    let rows = map read_calibration (drop 1 records) in
    (sheet_fault sheet.Calibrations is_calibration_header records (calibrations_fault rows) ≡ None) × (calibrations_fault rows ≡ None) × (c.items.items ≡ calibrations_of rows) × IsInStep c
IsCalibrationSheetResult records (Err fault) = Refuses (sheet_fault sheet.Calibrations is_calibration_header records (calibrations_fault (map read_calibration (drop 1 records)))) fault

-- the parameters that the records of a sheet spell, header first, or the first rule that they break
abbrev pub IsParameterSheetResult : List Calibration → List Text → List (List Text) → Result Parameters MdbFault → Type 0
IsParameterSheetResult calibrations names records (Ok p) =
    let rows = map (read_parameter names) (drop 1 records) in
    (sheet_fault sheet.Parameters is_parameter_header records (parameters_fault calibrations rows) ≡ None) × (parameters_fault calibrations rows ≡ None) × (p.items.items ≡ parameters_of rows) × (p.names ≡ map (λ x. x.name) p.items.items)
IsParameterSheetResult calibrations names records (Err fault) = Refuses (sheet_fault sheet.Parameters is_parameter_header records (parameters_fault calibrations (map (read_parameter names) (drop 1 records)))) fault

-- the containers that the records of a sheet spell, header first, or the first rule that they break
abbrev pub IsContainerSheetResult : List Parameter → List (List Text) → Result Containers MdbFault → Type 0
IsContainerSheetResult parameters records (Ok c) =
    let rows = read_containers parameters [] (drop 1 records) in
    (sheet_fault sheet.Containers is_container_header records (containers_fault parameters rows) ≡ None) × (containers_fault parameters rows ≡ None) × (c.items.items ≡ containers_of rows) × HasPaths parameters c
IsContainerSheetResult parameters records (Err fault) = Refuses (sheet_fault sheet.Containers is_container_header records (containers_fault parameters (read_containers parameters [] (drop 1 records)))) fault

-- the database of three lists that were built
abbrev pub database_of_lists : Calibrations → Parameters → Containers → Database
database_of_lists calibrations parameters containers = record { parameters = parameters.items.items; calibrations = calibrations.items.items; containers = containers.items.items }

-- sound rows spell the three lists, and each parent stands earlier
pub record AreSpelledLists (calibrations : Calibrations) (parameters : Parameters) (containers : Containers) : Type 0 where
  pub rows : Rows
  pub sound : first_fault rows ≡ None
  pub spelled : database_of rows ≡ database_of_lists calibrations parameters containers
  pub earlier : AreEarlier containers.items.items

-- the database, or the first limit that it passes; for want of memory nothing is said
abbrev pub IsLimitsResult : Database → Result Database MdbFault → Type 0
IsLimitsResult database (Ok mdb) = (limit_passed database ≡ None) × (mdb ≡ database)
IsLimitsResult database (Err (Bad sheet row rule)) = ⊥
IsLimitsResult database (Err (Limit which number)) = limit_passed database ≡ Some (which, number)
IsLimitsResult database (Err OutOfMemory) = Unit {0}
