-- A mission database fits its octets; and its rows, taken in again, are sound.
use Rattle.std.proofs.Common.{◌≡◌, ◌∙◌, ◌+◌, ◌≤◌, ℕ, suc, List, [], ◌∷◌, ◌++◌, length, map, Option, Some, None, Bool, true, false, cond, ltb, refl, ap, sym, arith, subst}
use Rattle.std.specs.Prelude.{slice_get, option_map, flat_map, sum_by}
use Rattle.std.proofs.lemmas.Bool.{ltb-false}
use Rattle.std.proofs.lemmas.List.{map-append}
use Rattle.std.proofs.lemmas.List.Sums.{fold-append}
use Rattle.mdb_items.specs.declared.calibration.Calibration.{Calibration}
use Rattle.mdb_items.specs.declared.fault.MdbSheet.TheVariants as sheet
use Rattle.mdb_items.specs.declared.parameter.Parameter.{Parameter}
use Rattle.mdb_items.specs.declared.rows.ParameterRow.{ParameterRow}
use Rattle.mdb_items.specs.CalibrationRows.{CalibrationRow, calibration_fault_at, calibrations_of, rows_of_calibration, with_calibration_row}
use Rattle.mdb_items.specs.Checks.{first_at, or_else}
use Rattle.mdb_items.specs.ContainerRows.{ContainerRow, container_fault_at, containers_of, rows_of_container, with_container_row}
use Rattle.mdb_items.specs.Database.{Database, IsDatabase, broken_below, calibrations_fault, containers_fault, parameters_fault, database_rows}
use Rattle.mdb_items.specs.ParameterRows.{parameter_fault_at, parameter_of, parameters_of, row_of_parameter}
use Rattle.mdb_model.specs.Rechecking.{HasRows, calibration_fault_before, calibrations_sound, container_fault_below, containers_sound, parameter_fault_below, parameters_sound, with_parameter_row}
use Rattle.mdb_octets.specs.Spelling.{FitsDatabase}
use Rattle.std.specs.List.{AllByRecursion}
use Rattle.mdb_model.proofs.ContainersFit.{containers_fit}
use Rattle.mdb_model.proofs.Counts.{counts}
use Rattle.mdb_model.proofs.DatabaseFits.{calibrations_fit, calibrations_have_rows, parameters_fit}
use Rattle.mdb_items.proofs.Ends.{slice_get-end, take-front}
use Rattle.mdb_rules.proofs.Passing.{or_else-none}
use Rattle.mdb_model.proofs.RowsAgain.{rows_none, rows_sound}

map_none : {X Y : Type 0} (f : X → Y) (o : Option X) → option_map f o ≡ None → o ≡ None
map_none f None e = refl
map_none f (Some x) e = cc

-- ---- no row at fault, and the rows taken in again

slice_get-next : {X : Type 0} (xs : List X) (x : X) (ys : List X) → slice_get (xs ++ x ∷ ys) (length xs + 1) ≡ slice_get ys 0
slice_get-next [] x ys = refl
slice_get-next (y ∷ xs) x ys = let k : suc (length xs) + 1 ≡ suc (length xs + 1) = omega arith in ap (λ (n : ℕ). slice_get (y ∷ (xs ++ x ∷ ys)) n) k ∙ slice_get-next xs x ys

calibration_here : (done : List CalibrationRow) (row : CalibrationRow) (rest : List CalibrationRow) → calibration_fault_at (done ++ row ∷ rest) (length done) ≡ calibration_fault_before (calibrations_of done) row rest
unfolding calibration_fault_at
calibration_here done row rest = rw (take-front done (row ∷ rest), slice_get-end done row rest, slice_get-next done row rest) refl

pub calibrations_are_sound : (rows : List CalibrationRow) → first_at (calibration_fault_at rows) (length rows) ≡ None → calibrations_sound [] rows ≡ true
calibrations_are_sound rows none = rows_sound calibration_fault_before with_calibration_row calibrations_of calibration_fault_at (λ done row. fold-append with_calibration_row [] done (row ∷ [])) calibration_here rows none

pub calibrations_none : (rows : List CalibrationRow) → calibrations_sound [] rows ≡ true → first_at (calibration_fault_at rows) (length rows) ≡ None
calibrations_none rows sound = rows_none calibration_fault_before with_calibration_row calibrations_of calibration_fault_at (λ done row. fold-append with_calibration_row [] done (row ∷ [])) calibration_here rows sound

parameter_here : (cs : List Calibration) (done : List ParameterRow) (row : ParameterRow) (rest : List ParameterRow) → parameter_fault_at cs (done ++ row ∷ rest) (length done) ≡ parameter_fault_below cs (parameters_of done) row rest
unfolding parameter_fault_at
parameter_here cs done row rest = rw (take-front done (row ∷ rest), slice_get-end done row rest) refl

pub parameters_are_sound : (cs : List Calibration) (rows : List ParameterRow) → first_at (parameter_fault_at cs rows) (length rows) ≡ None → parameters_sound cs [] rows ≡ true
parameters_are_sound cs rows none = rows_sound (parameter_fault_below cs) with_parameter_row parameters_of (parameter_fault_at cs) (λ done row. map-append parameter_of done (row ∷ [])) (parameter_here cs) rows none

pub parameters_none : (cs : List Calibration) (rows : List ParameterRow) → parameters_sound cs [] rows ≡ true → first_at (parameter_fault_at cs rows) (length rows) ≡ None
parameters_none cs rows sound = rows_none (parameter_fault_below cs) with_parameter_row parameters_of (parameter_fault_at cs) (λ done row. map-append parameter_of done (row ∷ [])) (parameter_here cs) rows sound

container_here : (ps : List Parameter) (done : List ContainerRow) (row : ContainerRow) (rest : List ContainerRow) → container_fault_at ps (done ++ row ∷ rest) (length done) ≡ container_fault_below ps (containers_of done) row rest
unfolding container_fault_at
container_here ps done row rest = rw (take-front done (row ∷ rest), slice_get-end done row rest) refl

pub containers_are_sound : (ps : List Parameter) (rows : List ContainerRow) → first_at (container_fault_at ps rows) (length rows) ≡ None → containers_sound ps [] rows ≡ true
containers_are_sound ps rows none = rows_sound (container_fault_below ps) with_container_row containers_of (container_fault_at ps) (λ done row. fold-append with_container_row [] done (row ∷ [])) (container_here ps) rows none

pub containers_none : (ps : List Parameter) (rows : List ContainerRow) → containers_sound ps [] rows ≡ true → first_at (container_fault_at ps rows) (length rows) ≡ None
containers_none ps rows sound = rows_none (container_fault_below ps) with_container_row containers_of (container_fault_at ps) (λ done row. fold-append with_container_row [] done (row ∷ [])) (container_here ps) rows sound

-- the containers sheet has rows, and none is at fault
pub containers_first : (ps : List Parameter) (rows : List ContainerRow) → containers_fault ps rows ≡ None → first_at (container_fault_at ps rows) (length rows) ≡ None
containers_first ps [] none = cc
containers_first ps (row ∷ rows) none = map_none (broken_below sheet.Containers) (first_at (container_fault_at ps (row ∷ rows)) (length (row ∷ rows))) none

-- ---- the parts of a database

pub record Parts (d : Database) : Type 0 where
  pub parameters : parameters_of (map row_of_parameter d.parameters) ≡ d.parameters
  pub calibrations : calibrations_of (flat_map rows_of_calibration d.calibrations) ≡ d.calibrations
  pub containers : containers_of (flat_map rows_of_container d.containers) ≡ d.containers
  pub calibrations_none : first_at (calibration_fault_at (flat_map rows_of_calibration d.calibrations)) (length (flat_map rows_of_calibration d.calibrations)) ≡ None
  pub parameters_none : first_at (parameter_fault_at d.calibrations (map row_of_parameter d.parameters)) (length (map row_of_parameter d.parameters)) ≡ None
  pub containers_none : containers_fault d.parameters (flat_map rows_of_container d.containers) ≡ None

pub parts_of : (d : Database) → IsDatabase d → Parts d
parts_of d is =
    let r = database_rows d in
    let ps : parameters_of r.parameters ≡ d.parameters = ap (λ (x : Database). x.parameters) is.spelled in
    let cs : calibrations_of r.calibrations ≡ d.calibrations = ap (λ (x : Database). x.calibrations) is.spelled in
    let one = or_else-none (calibrations_fault r.calibrations) (or_else (parameters_fault (calibrations_of r.calibrations) r.parameters) (containers_fault (parameters_of r.parameters) r.containers)) is.sound in
    let two = or_else-none (parameters_fault (calibrations_of r.calibrations) r.parameters) (containers_fault (parameters_of r.parameters) r.containers) one.1 in
    let p : parameters_fault d.calibrations r.parameters ≡ None = ap (λ (x : List Calibration). parameters_fault x r.parameters) (sym cs) ∙ two.0 in
    record {
      parameters = ps;
      calibrations = cs;
      containers = ap (λ (x : Database). x.containers) is.spelled;
      calibrations_none = map_none (broken_below sheet.Calibrations) (first_at (calibration_fault_at r.calibrations) (length r.calibrations)) one.0;
      parameters_none = map_none (broken_below sheet.Parameters) (first_at (parameter_fault_at d.calibrations r.parameters) (length r.parameters)) p;
      containers_none = ap (λ (x : List Parameter). containers_fault x r.containers) (sym ps) ∙ two.1;
    }

pub has_rows : (d : Database) → IsDatabase d → AllByRecursion HasRows d.calibrations
has_rows d is = let p = parts_of d is in subst (λ (cs : List Calibration). AllByRecursion HasRows cs) p.calibrations (calibrations_have_rows (flat_map rows_of_calibration d.calibrations) p.calibrations_none)

-- By the rules and the limits each item fits the widths of its octets.
pub database_fits : (d : Database) → IsDatabase d → FitsDatabase d
database_fits d is =
    let p = parts_of d is in
    let few = counts d is.small in
    let a = few.calibrations in
    let b = few.parameters in
    let c = few.containers in
    record {
      parameters = (omega arith, parameters_fit d.calibrations d.parameters few.calibrations p.parameters_none);
      calibrations = (omega arith, calibrations_fit d.calibrations (has_rows d is) few.rows p.calibrations_none);
      containers = (
        omega arith,
        containers_fit d.parameters d.containers [] few.parameters (omega arith) tt
            (containers_are_sound d.parameters (flat_map rows_of_container d.containers) (containers_first d.parameters (flat_map rows_of_container d.containers) p.containers_none)),
      );
    }
