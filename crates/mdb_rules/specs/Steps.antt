-- What the rows so far keep beside their items, and what the rows of a sheet give.
use Rattle.std.specs.Prelude.{◌≡◌, List, map, Option, Some, None, Result, Ok, Err}
use Rattle.mdb_items.specs.declared.calibration.Calibration.{Calibration}
use Rattle.mdb_rules.specs.declared.calibration_rows.Calibrations.{Calibrations}
use Rattle.mdb_rules.specs.declared.container_rows.Containers.{Containers}
use Rattle.mdb_items.specs.declared.fault.MdbFault.{MdbFault}
use Rattle.mdb_items.specs.declared.fault.MdbFault.TheVariants.{Bad, Limit, OutOfMemory}
use Rattle.mdb_items.specs.declared.parameter.Parameter.{Parameter}
use Rattle.mdb_rules.specs.declared.parameter_rows.Parameters.{Parameters}
use Rattle.mdb_items.specs.declared.rows.ParameterRow.{ParameterRow}
use Rattle.mdb_items.specs.CalibrationRows.{CalibrationRow, calibrations_of, enum_numbers, calibrator_of_last}
use Rattle.mdb_items.specs.ContainerRows.{ContainerRow, containers_of}
use Rattle.mdb_items.specs.Database.{Broken, calibrations_fault, containers_fault, parameters_fault}
use Rattle.mdb_items.specs.Lists.{last_of}
use Rattle.mdb_items.specs.ParameterRows.{parameters_of}
use Rattle.mdb_rules.specs.Totals.{HasPaths}

-- the names are those of the calibrations, and the numbers those of the last one where it is an enum
pub record IsInStep (c : Calibrations) : Type 0 where
  pub names : c.names ≡ map (λ x. x.name) c.items.items
  pub numbers : c.numbers ≡ enum_numbers (calibrator_of_last (last_of c.items.items))

-- the refusal names the first rule broken; want of memory says nothing
abbrev pub Refuses : Option Broken → MdbFault → Type 0
Refuses fault (Bad sheet row rule) = fault ≡ Some (record { sheet = sheet; row = row; rule = rule })
Refuses fault (Limit which number) = ⊥
Refuses fault OutOfMemory = Unit {0}

-- the calibrations that rows spell, or the first rule that the rows break
abbrev pub IsCalibrationsResult : List CalibrationRow → Result Calibrations MdbFault → Type 0
IsCalibrationsResult rows (Ok c) = (calibrations_fault rows ≡ None) × (c.items.items ≡ calibrations_of rows) × IsInStep c
IsCalibrationsResult rows (Err fault) = Refuses (calibrations_fault rows) fault

-- the parameters that rows spell, or the first rule that the rows break
abbrev pub IsParametersResult : List Calibration → List ParameterRow → Result Parameters MdbFault → Type 0
IsParametersResult calibrations rows (Ok p) = (parameters_fault calibrations rows ≡ None) × (p.items.items ≡ parameters_of rows) × (p.names ≡ map (λ x. x.name) p.items.items)
IsParametersResult calibrations rows (Err fault) = Refuses (parameters_fault calibrations rows) fault

-- the containers that rows spell, or the first rule that the rows break
abbrev pub IsContainersResult : List Parameter → List ContainerRow → Result Containers MdbFault → Type 0
IsContainersResult parameters rows (Ok c) = (containers_fault parameters rows ≡ None) × (c.items.items ≡ containers_of rows) × HasPaths parameters c
IsContainersResult parameters rows (Err fault) = Refuses (containers_fault parameters rows) fault
