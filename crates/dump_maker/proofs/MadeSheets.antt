-- The sheets break no rule and pass no limit: both are computed.
use Rattle.std.proofs.Common.{◌≡◌, None, refl}
use Rattle.mdb_items.specs.CalibrationRows.{calibration_fault_at}
use Rattle.mdb_items.specs.Checks.{first_at}
use Rattle.mdb_items.specs.ContainerRows.{container_fault_at}
use Rattle.mdb_items.specs.Database.{limit_passed}
use Rattle.mdb_items.specs.ParameterRows.{parameter_fault_at}
use Rattle.mdb_items.specs.Paths.{paths_of}
use Rattle.mdb_model.specs.Sheets.{sheets_fault, sheets_database}
use Rattle.dump_maker.specs.Sheets.{made_sheets}

pub no_fault : sheets_fault made_sheets ≡ None
unfolding first_at calibration_fault_at container_fault_at parameter_fault_at paths_of
no_fault = refl

pub no_limit : limit_passed (sheets_database made_sheets) ≡ None
unfolding first_at calibration_fault_at container_fault_at parameter_fault_at paths_of
no_limit = refl
