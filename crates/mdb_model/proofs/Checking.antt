-- The three sheets together.
use Rattle.std.proofs.Common.{◌≡◌, ◌∙◌, List, [], map, drop, Option, None, Result, Ok, Err, refl, ap, sym, subst}
use Rattle.mdb_items.specs.declared.calibration.Calibration.{Calibration}
use Rattle.mdb_rules.specs.declared.calibration_rows.Calibrations.{Calibrations}
use Rattle.mdb_items.specs.declared.container.Container.{Container}
use Rattle.mdb_rules.specs.declared.container_rows.Containers.{Containers}
use Rattle.mdb_items.specs.declared.fault.MdbFault.{MdbFault}
use Rattle.mdb_items.specs.declared.fault.MdbFault.TheVariants.{Bad, Limit, OutOfMemory}
use Rattle.mdb_items.specs.declared.fault.MdbSheet.TheVariants as sheet
use Rattle.mdb_items.specs.declared.parameter.Parameter.{Parameter}
use Rattle.mdb_rules.specs.declared.parameter_rows.Parameters.{Parameters}
use Rattle.mdb_items.specs.declared.sheet.RawMdb.{RawMdb}
use Rattle.mdb_items.specs.CalibrationRows.{CalibrationRow, calibrations_of}
use Rattle.mdb_items.specs.Checks.{or_else}
use Rattle.mdb_items.specs.ContainerRows.{containers_of}
use Rattle.mdb_items.specs.Database.{Broken, Database, calibrations_fault, containers_fault, parameters_fault}
use Rattle.mdb_model.specs.SheetResults.{AreSpelledLists, IsCalibrationSheetResult, IsContainerSheetResult, IsParameterSheetResult, IsLimitsResult, database_of_lists}
use Rattle.mdb_items.specs.ParameterRows.{parameters_of}
use Rattle.mdb_model.specs.Sheets.{IsCheckResult, is_calibration_header, is_container_header, is_parameter_header, read_calibration, read_containers, read_parameter, rows_of_sheets, sheet_fault, sheets_database, sheets_fault}
use Rattle.mdb_rules.specs.Steps.{Refuses}
use Rattle.mdb_items.specs.Texts.{Text}

-- the earlier sheet refuses
refused : (a b : Option Broken) (f : MdbFault) → Refuses a f → Refuses (or_else a b) f
refused a b (Bad s row rule) e = rw e refl
refused a b (Limit which number) e = absurd e
refused a b OutOfMemory e = tt

-- the earlier sheet is sound, and a later one refuses
later : (a b : Option Broken) (f : MdbFault) → a ≡ None → Refuses b f → Refuses (or_else a b) f
later a b f none e = let P : Option Broken → Type 0 = λ x. Refuses (or_else x b) f in subst P (sym none) e

both_none : (a b : Option Broken) → a ≡ None → b ≡ None → or_else a b ≡ None
both_none a b p q = rw (p, q) refl

as_sheets : (raw : RawMdb) (f : MdbFault) → Refuses (sheets_fault raw) f → IsCheckResult raw (Err f)
as_sheets raw (Bad s row rule) e = e
as_sheets raw (Limit which number) e = absurd e
as_sheets raw OutOfMemory e = tt

abbrev calibration_rows : RawMdb → List CalibrationRow
calibration_rows raw = map read_calibration (drop 1 raw.calibrations)

abbrev names_of : List Calibration → List Text
names_of cs = map (λ (c : Calibration). c.name) cs

abbrev first_of_sheets : RawMdb → Option Broken
first_of_sheets raw = sheet_fault sheet.Calibrations is_calibration_header raw.calibrations (calibrations_fault (calibration_rows raw))

abbrev second_from : RawMdb → List Calibration → List Text → Option Broken
second_from raw cs names = sheet_fault sheet.Parameters is_parameter_header raw.parameters (parameters_fault cs (map (read_parameter names) (drop 1 raw.parameters)))

abbrev third_from : RawMdb → List Parameter → Option Broken
third_from raw ps = sheet_fault sheet.Containers is_container_header raw.containers (containers_fault ps (read_containers ps [] (drop 1 raw.containers)))

abbrev parameters_from : RawMdb → List Parameter
parameters_from raw = parameters_of (map (read_parameter (names_of (calibrations_of (calibration_rows raw)))) (drop 1 raw.parameters))

abbrev rest_of_sheets : RawMdb → Option Broken
rest_of_sheets raw = or_else (second_from raw (calibrations_of (calibration_rows raw)) (names_of (calibrations_of (calibration_rows raw)))) (third_from raw (parameters_from raw))

pub calibrations_refuse : (raw : RawMdb) (f : MdbFault) → IsCalibrationSheetResult raw.calibrations (Err f) → IsCheckResult raw (Err f)
calibrations_refuse raw f e = as_sheets raw f (refused (first_of_sheets raw) (rest_of_sheets raw) f e)

-- what the calibrations and their names are
named : (raw : RawMdb) (c : Calibrations) → IsCalibrationSheetResult raw.calibrations (Ok c) → c.names ≡ names_of (calibrations_of (calibration_rows raw))
named raw c g = g.3.names ∙ ap names_of g.2

pub parameters_refuse : (raw : RawMdb) (c : Calibrations) (f : MdbFault) → IsCalibrationSheetResult raw.calibrations (Ok c) → IsParameterSheetResult c.items.items c.names raw.parameters (Err f) → IsCheckResult raw (Err f)
parameters_refuse raw c f g e =
    let cs = calibrations_of (calibration_rows raw) in
    let P : List Calibration → Type 0 = λ xs. Refuses (second_from raw xs c.names) f in
    let Q : List Text → Type 0 = λ names. Refuses (second_from raw cs names) f in
    let here : Refuses (second_from raw cs (names_of cs)) f = subst Q (named raw c g) (subst P g.2 e) in
    as_sheets raw f (later (first_of_sheets raw) (rest_of_sheets raw) f g.0 (refused (second_from raw cs (names_of cs)) (third_from raw (parameters_from raw)) f here))

spelled_parameters : (raw : RawMdb) (c : Calibrations) (p : Parameters) → IsCalibrationSheetResult raw.calibrations (Ok c) → IsParameterSheetResult c.items.items c.names raw.parameters (Ok p) → p.items.items ≡ parameters_from raw
spelled_parameters raw c p g h = h.2 ∙ ap (λ (names : List Text). parameters_of (map (read_parameter names) (drop 1 raw.parameters))) (named raw c g)

second_none : (raw : RawMdb) (c : Calibrations) (p : Parameters) → IsCalibrationSheetResult raw.calibrations (Ok c) → IsParameterSheetResult c.items.items c.names raw.parameters (Ok p)
    → second_from raw (calibrations_of (calibration_rows raw)) (names_of (calibrations_of (calibration_rows raw))) ≡ None
second_none raw c p g h =
    let cs = calibrations_of (calibration_rows raw) in
    ap (λ (names : List Text). second_from raw cs names) (sym (named raw c g)) ∙ ap (λ (xs : List Calibration). second_from raw xs c.names) (sym g.2) ∙ h.0

second_rows : (raw : RawMdb) (c : Calibrations) (p : Parameters) → IsCalibrationSheetResult raw.calibrations (Ok c) → IsParameterSheetResult c.items.items c.names raw.parameters (Ok p)
    → parameters_fault (calibrations_of (calibration_rows raw)) (map (read_parameter (names_of (calibrations_of (calibration_rows raw)))) (drop 1 raw.parameters)) ≡ None
second_rows raw c p g h =
    let cs = calibrations_of (calibration_rows raw) in
    ap (λ (names : List Text). parameters_fault cs (map (read_parameter names) (drop 1 raw.parameters))) (sym (named raw c g)) ∙ ap (λ (xs : List Calibration). parameters_fault xs (map (read_parameter c.names) (drop 1 raw.parameters))) (sym g.2) ∙ h.1

pub containers_refuse : (raw : RawMdb) (c : Calibrations) (p : Parameters) (f : MdbFault) → IsCalibrationSheetResult raw.calibrations (Ok c) → IsParameterSheetResult c.items.items c.names raw.parameters (Ok p)
    → IsContainerSheetResult p.items.items raw.containers (Err f) → IsCheckResult raw (Err f)
containers_refuse raw c p f g h e =
    let cs = calibrations_of (calibration_rows raw) in
    let P : List Parameter → Type 0 = λ ps. Refuses (third_from raw ps) f in
    let here : Refuses (third_from raw (parameters_from raw)) f = subst P (spelled_parameters raw c p g h) e in
    as_sheets raw f (later (first_of_sheets raw) (rest_of_sheets raw) f g.0 (later (second_from raw cs (names_of cs)) (third_from raw (parameters_from raw)) f (second_none raw c p g h) here))

-- the three sheets spell the three lists
spelled_database : (raw : RawMdb) (c : Calibrations) (p : Parameters) (k : Containers) → IsCalibrationSheetResult raw.calibrations (Ok c) → IsParameterSheetResult c.items.items c.names raw.parameters (Ok p)
    → IsContainerSheetResult p.items.items raw.containers (Ok k) → sheets_database raw ≡ database_of_lists c p k
spelled_database raw c p k g h i =
    let ps = spelled_parameters raw c p g h in
    let containers : k.items.items ≡ containers_of (read_containers (parameters_from raw) [] (drop 1 raw.containers)) = i.2 ∙ ap (λ (xs : List Parameter). containers_of (read_containers xs [] (drop 1 raw.containers))) ps in
    ap (λ (xs : List Parameter). let d : Database = record { parameters = xs; calibrations = calibrations_of (calibration_rows raw); containers = containers_of (read_containers (parameters_from raw) [] (drop 1 raw.containers)) } in d) (sym ps)
    ∙ ap (λ (xs : List Calibration). let d : Database = record { parameters = p.items.items; calibrations = xs; containers = containers_of (read_containers (parameters_from raw) [] (drop 1 raw.containers)) } in d) (sym g.2)
    ∙ ap (λ (xs : List Container). let d : Database = record { parameters = p.items.items; calibrations = c.items.items; containers = xs } in d) (sym containers)

-- and are sound
pub all_given : (raw : RawMdb) (c : Calibrations) (p : Parameters) (k : Containers) → IsCalibrationSheetResult raw.calibrations (Ok c) → IsParameterSheetResult c.items.items c.names raw.parameters (Ok p)
    → IsContainerSheetResult p.items.items raw.containers (Ok k) → AreSpelledLists c p k
all_given raw c p k g h i =
    let ps = spelled_parameters raw c p g h in
    let cs = calibrations_of (calibration_rows raw) in
    let rows = rows_of_sheets raw in
    let third : containers_fault (parameters_from raw) (read_containers (parameters_from raw) [] (drop 1 raw.containers)) ≡ None = ap (λ (xs : List Parameter). containers_fault xs (read_containers xs [] (drop 1 raw.containers))) (sym ps) ∙ i.1 in
    record {
      rows = rows;
      sound = both_none (calibrations_fault rows.calibrations) (or_else (parameters_fault cs rows.parameters) (containers_fault (parameters_from raw) rows.containers)) g.1
          (both_none (parameters_fault cs rows.parameters) (containers_fault (parameters_from raw) rows.containers) (second_rows raw c p g h) third);
      spelled = spelled_database raw c p k g h i;
      earlier = i.3.earlier;
    }

sheets_none : (raw : RawMdb) (c : Calibrations) (p : Parameters) (k : Containers) → IsCalibrationSheetResult raw.calibrations (Ok c) → IsParameterSheetResult c.items.items c.names raw.parameters (Ok p)
    → IsContainerSheetResult p.items.items raw.containers (Ok k) → sheets_fault raw ≡ None
sheets_none raw c p k g h i =
    let third : third_from raw (parameters_from raw) ≡ None = ap (third_from raw) (sym (spelled_parameters raw c p g h)) ∙ i.0 in
    both_none (first_of_sheets raw) (or_else (second_from raw (calibrations_of (calibration_rows raw)) (names_of (calibrations_of (calibration_rows raw)))) (third_from raw (parameters_from raw))) g.0
    (both_none (second_from raw (calibrations_of (calibration_rows raw)) (names_of (calibrations_of (calibration_rows raw)))) (third_from raw (parameters_from raw)) (second_none raw c p g h) third)

-- what the limits give is what the sheets give
pub limits_give : (raw : RawMdb) (c : Calibrations) (p : Parameters) (k : Containers) (r : Result Database MdbFault) → IsCalibrationSheetResult raw.calibrations (Ok c) → IsParameterSheetResult c.items.items c.names raw.parameters (Ok p)
    → IsContainerSheetResult p.items.items raw.containers (Ok k) → IsLimitsResult (database_of_lists c p k) r → IsCheckResult raw r
limits_give raw c p k r g h i e =
    let same = sym (spelled_database raw c p k g h i) in
    let P : Database → Type 0 = λ d. IsLimitsResult d r in
    by_result r (subst P same e)
  where
    by_result : (r : Result Database MdbFault) → IsLimitsResult (sheets_database raw) r → IsCheckResult raw r
    by_result (Ok m) l = (sheets_none raw c p k g h i, l.0, l.1)
    by_result (Err (Bad s row rule)) l = absurd l
    by_result (Err (Limit which number)) l = (sheets_none raw c p k g h i, l)
    by_result (Err OutOfMemory) l = tt
