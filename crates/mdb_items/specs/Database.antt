-- The mission database.
use Rattle.std.specs.Prelude.{◌≡◌, ℕ, ◌+◌, List, [], ◌∷◌, length, map, flat_map, sum_by, Option, Some, None, option_map, if◌then◌else◌, nat_lt}
use Rattle.mdb_items.specs.declared.calibration.Calibration.{Calibration}
use Rattle.mdb_items.specs.declared.calibration.Calibrator.{Calibrator}
use Rattle.mdb_items.specs.declared.calibration.Calibrator.TheVariants.{Poly, Points, Enum}
use Rattle.mdb_items.specs.declared.container.Container.{Container}
use Rattle.mdb_items.specs.declared.fault.MdbLimit.{MdbLimit}
use Rattle.mdb_items.specs.declared.fault.MdbLimit.TheVariants as limit
use Rattle.mdb_items.specs.declared.fault.MdbSheet.{MdbSheet}
use Rattle.mdb_items.specs.declared.fault.MdbSheet.TheVariants as sheet
use Rattle.mdb_items.specs.declared.parameter.Parameter.{Parameter}
use Rattle.mdb_items.specs.declared.rows.ParameterRow.{ParameterRow}
use Rattle.mdb_items.specs.CalibrationRows.{CalibrationRow, calibration_fault_at, calibrations_of, rows_of_calibration}
use Rattle.mdb_items.specs.Checks.{first_at, or_else}
use Rattle.mdb_items.specs.ContainerRows.{ContainerRow, container_fault_at, containers_of, rows_of_container}
use Rattle.mdb_items.specs.Limits.{database_limit}
use Rattle.mdb_items.specs.ParameterRows.{parameter_fault_at, parameters_of, row_of_parameter}

-- a mission database: three lists, each in the order of its sheet
pub record Database : Type 0 where
  pub parameters : List Parameter
  pub calibrations : List Calibration
  pub containers : List Container

-- the rows of the three sheets below their headers
pub record Rows : Type 0 where
  pub parameters : List ParameterRow
  pub calibrations : List CalibrationRow
  pub containers : List ContainerRow

-- the database that rows spell
abbrev pub database_of : Rows → Database
database_of rows = record {
  parameters = parameters_of rows.parameters;
  calibrations = calibrations_of rows.calibrations;
  containers = containers_of rows.containers;
}

-- the rows of a database, each entry in a row of its own
abbrev pub database_rows : Database → Rows
database_rows d = record {
  parameters = map row_of_parameter d.parameters;
  calibrations = flat_map rows_of_calibration d.calibrations;
  containers = flat_map rows_of_container d.containers;
}

-- a rule that is broken: its sheet, its row, counted from 1 with the header, and its number
pub record Broken : Type 0 where
  pub sheet : MdbSheet
  pub row : ℕ
  pub rule : ℕ

-- the rule broken at a place below the header
abbrev pub broken_below : MdbSheet → ℕ × ℕ → Broken
broken_below sheet fault = record { sheet = sheet; row = fault.0 + 2; rule = fault.1 }

-- the first rule broken in the rows of the calibrations sheet
abbrev pub calibrations_fault : List CalibrationRow → Option Broken
calibrations_fault rows = option_map (broken_below sheet.Calibrations) (first_at (calibration_fault_at rows) (length rows))

-- the first rule broken in the rows of the parameters sheet
abbrev pub parameters_fault : List Calibration → List ParameterRow → Option Broken
parameters_fault calibrations rows = option_map (broken_below sheet.Parameters) (first_at (parameter_fault_at calibrations rows) (length rows))

-- rule 19: the containers sheet has no row but the header
abbrev pub containers_fault : List Parameter → List ContainerRow → Option Broken
containers_fault parameters [] = Some (record { sheet = sheet.Containers; row = 1; rule = 19 })
containers_fault parameters (row ∷ rows) = option_map (broken_below sheet.Containers) (first_at (container_fault_at parameters (row ∷ rows)) (length (row ∷ rows)))

-- the first rule broken: calibrations, then parameters, then containers
abbrev pub first_fault : Rows → Option Broken
first_fault rows =
    or_else (calibrations_fault rows.calibrations)
    (or_else (parameters_fault (calibrations_of rows.calibrations) rows.parameters)
    (containers_fault (parameters_of rows.parameters) rows.containers))

-- how many rows a calibrator has
abbrev pub calibrator_len : Calibrator → ℕ
calibrator_len (Poly rows) = length rows
calibrator_len (Points rows) = length rows
calibrator_len (Enum rows) = length rows

-- how many rows a calibration has
abbrev pub row_count : Calibration → ℕ
row_count c = calibrator_len c.calibrator

-- how many entries a container has
abbrev pub entry_count : Container → ℕ
entry_count c = length c.entries

-- a quantity and its limit, where so many pass it, or else what is passed of the others
abbrev pub passed_or : MdbLimit → ℕ → Option (MdbLimit × ℕ) → Option (MdbLimit × ℕ)
passed_or quantity count others =
    if nat_lt (database_limit quantity) count then Some (quantity, database_limit quantity) else others

-- the first limit that is passed, in their order
abbrev pub limit_passed : Database → Option (MdbLimit × ℕ)
limit_passed d =
    passed_or limit.Calibrations (length d.calibrations)
    (passed_or limit.CalibrationRows (sum_by row_count d.calibrations)
    (passed_or limit.Parameters (length d.parameters)
    (passed_or limit.Containers (length d.containers)
    (passed_or limit.Entries (sum_by entry_count d.containers) None))))

-- its own rows spell it, they break no rule, and it passes no limit
pub record IsDatabase (d : Database) : Type 0 where
  pub spelled : database_of (database_rows d) ≡ d
  pub sound : first_fault (database_rows d) ≡ None
  pub small : limit_passed d ≡ None
