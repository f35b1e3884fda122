-- The database that sound rows spell is spelled by its own rows, which are sound.
use Rattle.std.proofs.Common.{◌≡◌, ◌∙◌, List, length, map, Option, Some, None, refl, ap}
use Rattle.std.specs.Prelude.{flat_map, option_map}
use Rattle.mdb_items.specs.declared.container.Container.{Container}
use Rattle.mdb_items.specs.declared.fault.MdbSheet.TheVariants as sheet
use Rattle.mdb_items.specs.declared.rows.ParameterRow.{ParameterRow}
use Rattle.mdb_items.specs.CalibrationRows.{CalibrationRow, calibration_fault_at, calibrations_of, rows_of_calibration}
use Rattle.mdb_items.specs.Checks.{first_at, or_else}
use Rattle.mdb_items.specs.ContainerRows.{containers_of, rows_of_container}
use Rattle.mdb_items.specs.Database.{Broken, Database, IsDatabase, Rows, broken_below, calibrations_fault, containers_fault, database_of, first_fault, limit_passed, parameters_fault, database_rows}
use Rattle.mdb_items.specs.ParameterRows.{parameter_fault_at, parameters_of, row_of_parameter}
use Rattle.mdb_rules.proofs.CalibrationSpelling.{calibrations_respelled}
use Rattle.mdb_model.proofs.ContainerSpelling.{containers_respelled}
use Rattle.mdb_model.proofs.ParameterSpelling.{parameters_respelled}
use Rattle.mdb_rules.proofs.Passing.{or_else-none}

map_none : {X Y : Type 0} (f : X → Y) (o : Option X) → option_map f o ≡ None → o ≡ None
map_none f None e = refl
map_none f (Some x) e = cc

none_of_both : (a b : Option Broken) → a ≡ None → b ≡ None → or_else a b ≡ None
none_of_both None b p q = q
none_of_both (Some x) b p q = cc

-- sound rows within the limits spell a database
pub is_database : (rows : Rows) → first_fault rows ≡ None → limit_passed (database_of rows) ≡ None → IsDatabase (database_of rows)
is_database rows sound small =
    let cs = calibrations_of rows.calibrations in
    let ps = parameters_of rows.parameters in
    let first = or_else-none (calibrations_fault rows.calibrations) (or_else (parameters_fault cs rows.parameters) (containers_fault ps rows.containers)) sound in
    let second = or_else-none (parameters_fault cs rows.parameters) (containers_fault ps rows.containers) first.1 in
    let c : flat_map rows_of_calibration cs ≡ rows.calibrations = calibrations_respelled rows.calibrations (map_none (broken_below sheet.Calibrations) (first_at (calibration_fault_at rows.calibrations) (length rows.calibrations)) first.0) in
    let p : map row_of_parameter ps ≡ rows.parameters = parameters_respelled cs rows.parameters (map_none (broken_below sheet.Parameters) (first_at (parameter_fault_at cs rows.parameters) (length rows.parameters)) second.0) in
    let n = containers_respelled ps rows.containers second.1 in
    let containers = flat_map rows_of_container (containers_of rows.containers) in
    let back : database_rows (database_of rows) ≡ record { parameters = rows.parameters; calibrations = rows.calibrations; containers = containers } =
    ap (λ (xs : List CalibrationRow). let r : Rows = record { parameters = map row_of_parameter ps; calibrations = xs; containers = containers } in r) c
    ∙ ap (λ (xs : List ParameterRow). let r : Rows = record { parameters = xs; calibrations = rows.calibrations; containers = containers } in r) p in
    let spelled : database_of (record { parameters = rows.parameters; calibrations = rows.calibrations; containers = containers }) ≡ database_of rows =
    ap (λ (xs : List Container). let d : Database = record { parameters = ps; calibrations = cs; containers = xs } in d) n.0 in
    record {
      spelled = ap database_of back ∙ spelled;
      sound = ap first_fault back ∙ none_of_both (calibrations_fault rows.calibrations) (or_else (parameters_fault cs rows.parameters) (containers_fault ps containers)) first.0 (none_of_both (parameters_fault cs rows.parameters) (containers_fault ps containers) second.0 n.1);
      small = small;
    }
