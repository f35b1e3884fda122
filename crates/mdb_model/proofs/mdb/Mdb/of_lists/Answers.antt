use Rattle.std.proofs.Common.{◌≡◌, ◌∙◌, List, [], true, false, length, map, ap, sym, subst, rules}
use Rattle.std.specs.Prelude.{flat_map, is_some, nat_lt, ◌==◌}
use Rattle.std.specs.List.{AllByRecursion, list_all}
use Rattle.mdb_items.specs.declared.calibration.Calibration.{Calibration}
use Rattle.mdb_items.specs.declared.container.Container.{Container}
use Rattle.mdb_items.specs.declared.parameter.Parameter.{Parameter}
use Rattle.mdb_items.specs.CalibrationRows.{calibrations_of, rows_of_calibration}
use Rattle.mdb_items.specs.ContainerRows.{containers_of, rows_of_container}
use Rattle.mdb_items.specs.Database.{Database, IsDatabase, limit_passed, database_rows, calibrator_len}
use Rattle.octet_fields.specs.declared.fault.DecodeError.{DecodeError}
use Rattle.mdb_items.specs.ParameterRows.{row_of_parameter}
use Rattle.mdb_model.specs.Rechecking.{HasRows, ListsRechecked, Refused, calibrations_sound, containers_sound, parameters_sound}
use Rattle.mdb_model.proofs.ListsAgain.{all_sound, all_spelled, each_has_rows, refuse_calibrations, refuse_containers, refuse_empty, refuse_limits, refuse_parameters, refuse_passed, refuse_rowless, same_lists, some_item, some_rowless}
use Rattle.mdb_rules.proofs.Outcomes.{at_err}
use Rattle.mdb_model.proofs.mdb.Mdb.of_lists.Goals as goal

pub returns-then-pass_limit : goal.returns-then-pass_limit
returns-then-pass_limit c =
    let lists = c.args.lists.now in
    let d : Database = record { parameters = lists.parameters.items; calibrations = lists.calibrations.items; containers = lists.containers.items } in
    let passed : is_some (limit_passed d) ≡ true = search rules in
    refuse_passed d passed

pub returns-then-not-have_rows : goal.returns-then-not-have_rows
returns-then-not-have_rows c =
    let lists = c.args.lists.now in
    let d : Database = record { parameters = lists.parameters.items; calibrations = lists.calibrations.items; containers = lists.containers.items } in
    let none : list_all (λ k. nat_lt 0 (calibrator_len k.calibrator)) d.calibrations ≡ false = search rules in
    refuse_rowless d (some_rowless d.calibrations none)

pub returns-then-is_empty : goal.returns-then-is_empty
returns-then-is_empty c =
    let lists = c.args.lists.now in
    let d : Database = record { parameters = lists.parameters.items; calibrations = lists.calibrations.items; containers = lists.containers.items } in
    let none : length d.containers ≡ 0 = search rules in
    refuse_empty d none

pub rechecked_calibrations-requires : goal.rechecked_calibrations-requires
rechecked_calibrations-requires c =
    let lists = c.args.lists.now in
    let d : Database = record { parameters = lists.parameters.items; calibrations = lists.calibrations.items; containers = lists.containers.items } in
    let all : list_all (λ k. nat_lt 0 (calibrator_len k.calibrator)) d.calibrations ≡ true = search rules in
    let P : List Calibration → Type 0 = λ xs. AllByRecursion HasRows xs in
    subst P (sym c.deref-2.ensures.value) (each_has_rows d.calibrations all)

pub returns-in_err-calibrations : goal.returns-in_err-calibrations
returns-in_err-calibrations c =
    let lists = c.args.lists.now in
    let d : Database = record { parameters = lists.parameters.items; calibrations = lists.calibrations.items; containers = lists.containers.items } in
    let e = c.in_err-calibrations.field-0.0 in
    let P : List Calibration → Type 0 = λ xs. Refused e (calibrations_sound [] (flat_map rows_of_calibration xs) ≡ false) in
    at_err (λ r. ListsRechecked d r) c.from_residual.result e c.from_residual.ensures.1 (refuse_calibrations d e (subst P c.deref-2.ensures.value c.in_err-calibrations.ensures))

pub returns-in_err-parameters : goal.returns-in_err-parameters
returns-in_err-parameters c =
    let lists = c.args.lists.now in
    let d : Database = record { parameters = lists.parameters.items; calibrations = lists.calibrations.items; containers = lists.containers.items } in
    let cs = c.in_ok-calibrations.calibrations.items.items in
    let ec : cs ≡ calibrations_of (flat_map rows_of_calibration d.calibrations) = c.in_ok-calibrations.ensures.1 ∙ ap (λ (xs : List Calibration). calibrations_of (flat_map rows_of_calibration xs)) c.deref-2.ensures.value in
    let e = c.in_err-parameters.field-0.0 in
    let P : List Calibration → Type 0 = λ xs. Refused e (parameters_sound xs [] (map row_of_parameter c.deref-3.result.now) ≡ false) in
    let Q : List Parameter → Type 0 = λ xs. Refused e (parameters_sound cs [] (map row_of_parameter xs) ≡ false) in
    at_err (λ r. ListsRechecked d r) c.from_residual-in_err-parameters.result e c.from_residual-in_err-parameters.ensures.1
    (refuse_parameters d cs e ec (subst Q c.deref-3.ensures.value (subst P c.as_slice.ensures.value c.in_err-parameters.ensures)))

pub returns-in_err-containers : goal.returns-in_err-containers
returns-in_err-containers c =
    let lists = c.args.lists.now in
    let d : Database = record { parameters = lists.parameters.items; calibrations = lists.calibrations.items; containers = lists.containers.items } in
    let ps = c.in_ok-parameters.parameters.items.items in
    let ep : ps ≡ d.parameters = c.in_ok-parameters.ensures.1 ∙ c.deref-3.ensures.value in
    let e = c.in_err-containers.field-0.0 in
    let P : List Parameter → Type 0 = λ xs. Refused e (containers_sound xs [] (flat_map rows_of_container c.deref-4.result.now) ≡ false) in
    let Q : List Container → Type 0 = λ xs. Refused e (containers_sound ps [] (flat_map rows_of_container xs) ≡ false) in
    at_err (λ r. ListsRechecked d r) c.from_residual-in_err-containers.result e c.from_residual-in_err-containers.ensures.1
    (refuse_containers d ps e ep (subst Q c.deref-4.ensures.value (subst P c.as_slice-2.ensures.value c.in_err-containers.ensures)))

pub within_limits-requires : goal.within_limits-requires
within_limits-requires c =
    let lists = c.args.lists.now in
    let d : Database = record { parameters = lists.parameters.items; calibrations = lists.calibrations.items; containers = lists.containers.items } in
    let cs = c.in_ok-calibrations.calibrations.items.items in
    let ec : cs ≡ calibrations_of (flat_map rows_of_calibration d.calibrations) = c.in_ok-calibrations.ensures.1 ∙ ap (λ (xs : List Calibration). calibrations_of (flat_map rows_of_calibration xs)) c.deref-2.ensures.value in
    let ps = c.in_ok-parameters.parameters.items.items in
    let ep : ps ≡ d.parameters = c.in_ok-parameters.ensures.1 ∙ c.deref-3.ensures.value in
    let ks = c.in_ok-containers.containers.items.items in
    let ek : ks ≡ containers_of (flat_map rows_of_container d.containers) = c.in_ok-containers.ensures.1 ∙ ap (λ (xs : List Container). containers_of (flat_map rows_of_container xs)) c.deref-4.ensures.value in
    let some : (length d.containers == 0) ≡ false = search rules in
    let P : List Calibration → Type 0 = λ xs. calibrations_sound [] (flat_map rows_of_calibration xs) ≡ true in
    let Q : List Calibration → Type 0 = λ xs. parameters_sound xs [] (map row_of_parameter c.deref-3.result.now) ≡ true in
    let R : List Parameter → Type 0 = λ xs. parameters_sound cs [] (map row_of_parameter xs) ≡ true in
    let S : List Parameter → Type 0 = λ xs. containers_sound xs [] (flat_map rows_of_container c.deref-4.result.now) ≡ true in
    let T : List Container → Type 0 = λ xs. containers_sound ps [] (flat_map rows_of_container xs) ≡ true in
    record {
      rows = database_rows d;
      sound = all_sound d cs ps ec ep (some_item d.containers some) (subst P c.deref-2.ensures.value c.in_ok-calibrations.ensures.0) (subst R c.deref-3.ensures.value (subst Q c.as_slice.ensures.value c.in_ok-parameters.ensures.0))
          (subst T c.deref-4.ensures.value (subst S c.as_slice-2.ensures.value c.in_ok-containers.ensures.0));
      spelled = all_spelled d cs ps ks ec ep ek;
      earlier = c.in_ok-containers.ensures.2.earlier;
    }

pub returns-in-Err : goal.returns-in-Err
returns-in-Err c =
    let lists = c.args.lists.now in
    let d : Database = record { parameters = lists.parameters.items; calibrations = lists.calibrations.items; containers = lists.containers.items } in
    let cs = c.in_ok-calibrations.calibrations.items.items in
    let ec : cs ≡ calibrations_of (flat_map rows_of_calibration d.calibrations) = c.in_ok-calibrations.ensures.1 ∙ ap (λ (xs : List Calibration). calibrations_of (flat_map rows_of_calibration xs)) c.deref-2.ensures.value in
    let ps = c.in_ok-parameters.parameters.items.items in
    let ep : ps ≡ d.parameters = c.in_ok-parameters.ensures.1 ∙ c.deref-3.ensures.value in
    let ks = c.in_ok-containers.containers.items.items in
    let ek : ks ≡ containers_of (flat_map rows_of_container d.containers) = c.in_ok-containers.ensures.1 ∙ ap (λ (xs : List Container). containers_of (flat_map rows_of_container xs)) c.deref-4.ensures.value in
    let made : Database = record { parameters = ps; calibrations = cs; containers = ks } in
    let R : DecodeError → Type 0 = λ e. Refused e (IsDatabase d → ⊥) in
    subst R (sym c.refusal.ensures) (refuse_limits d made c.in-Err.fault (same_lists d cs ps ks ec ep ek) c.in-Err.ensures)
