-- The decoded lists, taken in again, are the database where they are one.
use Rattle.std.proofs.Common.{◌≡◌, ◌∙◌, ◌<◌, ℕ, List, [], ◌∷◌, length, map, Option, Some, None, Err, Bool, true, false, refl, ap, sym, arith, subst}
use Rattle.std.specs.Prelude.{option_map, flat_map, is_some, nat_lt, ◌==◌}
use Rattle.std.specs.List.{AllByRecursion, list_all}
use Rattle.std.proofs.lemmas.Bool.{lt-ltb, ltb-true}
use Rattle.mdb_items.specs.declared.calibration.Calibration.{Calibration}
use Rattle.mdb_items.specs.declared.container.Container.{Container}
use Rattle.mdb_items.specs.declared.fault.MdbFault.{MdbFault}
use Rattle.mdb_items.specs.declared.fault.MdbFault.TheVariants.{Bad, Limit, OutOfMemory}
use Rattle.mdb_items.specs.declared.fault.MdbSheet.TheVariants as sheet
use Rattle.mdb_items.specs.declared.parameter.Parameter.{Parameter}
use Rattle.mdb_items.specs.CalibrationRows.{calibrations_of, rows_of_calibration}
use Rattle.mdb_items.specs.Checks.{or_else}
use Rattle.mdb_items.specs.ContainerRows.{containers_of, rows_of_container}
use Rattle.mdb_items.specs.Database.{Broken, Database, IsDatabase, broken_below, calibrations_fault, containers_fault, database_of, first_fault, limit_passed, parameters_fault, database_rows, calibrator_len}
use Rattle.mdb_model.specs.SheetResults.{IsLimitsResult}
use Rattle.mdb_items.specs.ParameterRows.{parameters_of, row_of_parameter}
use Rattle.mdb_octets.specs.Reading.{database_at}
use Rattle.mdb_model.specs.Rechecking.{HasRows, Refused, calibrations_sound, containers_sound, parameters_sound, refusal}
use Rattle.mdb_octets.specs.Spelling.{database_octets}
use Rattle.mdb_model.proofs.DatabaseOctets.{calibrations_are_sound, calibrations_none, containers_are_sound, containers_first, containers_none, database_fits, has_rows, parameters_are_sound, parameters_none, parts_of}
use Rattle.mdb_octets.proofs.ItemOctets.{database_exact}
use Rattle.mdb_model.proofs.RowsAgain.{both_true, parameter_back, refused_as}
use Rattle.octet_fields.specs.declared.fault.DecodeError.{DecodeError}
use Rattle.octet_fields.specs.declared.fault.DecodeError.TheVariants as errors
use Rattle.octet_fields.specs.Answers.{Fails}
use Rattle.octet_fields.specs.Reading.{whole}
use Rattle.octet_fields.proofs.Answers.{is_memory, is_that}

true_not_false : (b : Bool) → b ≡ true → b ≡ false → ⊥
true_not_false b t f = cc

pub parameters_back : (ps : List Parameter) → parameters_of (map row_of_parameter ps) ≡ ps
parameters_back [] = refl
parameters_back (p ∷ ps) = let e = parameter_back p in let r = parameters_back ps in cc

none_of_both : (a b : Option Broken) → a ≡ None → b ≡ None → or_else a b ≡ None
none_of_both None b p q = q
none_of_both (Some x) b p q = cc

containers_fault_none : (ps : List Parameter) (cs : List Container) → 0 < length cs → containers_sound ps [] (flat_map rows_of_container cs) ≡ true → containers_fault ps (flat_map rows_of_container cs) ≡ None
containers_fault_none ps [] some sound = absurd (omega arith)
containers_fault_none ps (c ∷ cs) some sound = ap (option_map (broken_below sheet.Containers)) (containers_none ps (flat_map rows_of_container (c ∷ cs)) sound)

-- The rows of the lists are sound where each list was taken in.
pub all_sound : (d : Database) (cs : List Calibration) (ps : List Parameter) → cs ≡ calibrations_of (flat_map rows_of_calibration d.calibrations) → ps ≡ d.parameters → 0 < length d.containers
    → calibrations_sound [] (flat_map rows_of_calibration d.calibrations) ≡ true → parameters_sound cs [] (map row_of_parameter d.parameters) ≡ true → containers_sound ps [] (flat_map rows_of_container d.containers) ≡ true → first_fault (database_rows d) ≡ None
all_sound d cs ps ec ep some c p k =
    let r = database_rows d in
    let own : ps ≡ parameters_of r.parameters = ep ∙ sym (parameters_back d.parameters) in
    let one : calibrations_fault r.calibrations ≡ None = ap (option_map (broken_below sheet.Calibrations)) (calibrations_none r.calibrations c) in
    let two : parameters_fault (calibrations_of r.calibrations) r.parameters ≡ None =
    ap (λ (x : List Calibration). parameters_fault x r.parameters) (sym ec) ∙ ap (option_map (broken_below sheet.Parameters)) (parameters_none cs r.parameters p) in
    let three : containers_fault (parameters_of r.parameters) r.containers ≡ None = ap (λ (x : List Parameter). containers_fault x r.containers) (sym own) ∙ containers_fault_none ps d.containers some k in
    none_of_both (calibrations_fault r.calibrations) (or_else (parameters_fault (calibrations_of r.calibrations) r.parameters) (containers_fault (parameters_of r.parameters) r.containers)) one
    (none_of_both (parameters_fault (calibrations_of r.calibrations) r.parameters) (containers_fault (parameters_of r.parameters) r.containers) two three)

-- The rows of the lists spell what was taken in.
pub all_spelled : (d : Database) (cs : List Calibration) (ps : List Parameter) (ks : List Container) → cs ≡ calibrations_of (flat_map rows_of_calibration d.calibrations) → ps ≡ d.parameters → ks ≡ containers_of (flat_map rows_of_container d.containers)
    → database_of (database_rows d) ≡ record { parameters = ps; calibrations = cs; containers = ks }
all_spelled d cs ps ks ec ep ek = let e = parameters_back d.parameters in cc

-- ---- lists that aren't taken in are no database

-- a test of each calibration for a row
pub each_has_rows : (cs : List Calibration) → list_all (λ c. nat_lt 0 (calibrator_len c.calibrator)) cs ≡ true → AllByRecursion HasRows cs
each_has_rows [] all = tt
each_has_rows (c ∷ cs) all = let p = both_true (nat_lt 0 (calibrator_len c.calibrator)) (list_all (λ k. nat_lt 0 (calibrator_len k.calibrator)) cs) all in (ltb-true 0 (calibrator_len c.calibrator) p.0, each_has_rows cs p.1)

all_have_rows : (cs : List Calibration) → AllByRecursion HasRows cs → list_all (λ c. nat_lt 0 (calibrator_len c.calibrator)) cs ≡ true
all_have_rows [] has = refl
all_have_rows (c ∷ cs) has = rw (lt-ltb 0 (calibrator_len c.calibrator) has.0, all_have_rows cs has.1) refl

pub some_rowless : (cs : List Calibration) → list_all (λ c. nat_lt 0 (calibrator_len c.calibrator)) cs ≡ false → AllByRecursion HasRows cs → ⊥
some_rowless cs none has = true_not_false (list_all (λ c. nat_lt 0 (calibrator_len c.calibrator)) cs) (all_have_rows cs has) none

pub refuse_rowless : (d : Database) → (AllByRecursion HasRows d.calibrations → ⊥) → IsDatabase d → ⊥
refuse_rowless d none is = none (has_rows d is)

pub some_item : {X : Type 0} (xs : List X) → (length xs == 0) ≡ false → 0 < length xs
some_item [] e = cc
some_item (x ∷ xs) e = omega arith

no_containers : (ps : List Parameter) (ks : List Container) → length ks ≡ 0 → containers_fault ps (flat_map rows_of_container ks) ≡ None → ⊥
no_containers ps [] none e = cc
no_containers ps (k ∷ ks) none e = absurd (omega arith)

pub refuse_empty : (d : Database) → length d.containers ≡ 0 → IsDatabase d → ⊥
refuse_empty d none is = no_containers d.parameters d.containers none (parts_of d is).containers_none

pub refuse_calibrations : (d : Database) (e : DecodeError) → Refused e (calibrations_sound [] (flat_map rows_of_calibration d.calibrations) ≡ false) → Refused e (IsDatabase d → ⊥)
refuse_calibrations d e refused =
    let rows = flat_map rows_of_calibration d.calibrations in
    refused_as e (calibrations_sound [] rows ≡ false) (IsDatabase d → ⊥) (λ f is. true_not_false (calibrations_sound [] rows) (calibrations_are_sound rows (parts_of d is).calibrations_none) f) refused

pub refuse_parameters : (d : Database) (cs : List Calibration) (e : DecodeError) → cs ≡ calibrations_of (flat_map rows_of_calibration d.calibrations) → Refused e (parameters_sound cs [] (map row_of_parameter d.parameters) ≡ false) → Refused e (IsDatabase d → ⊥)
refuse_parameters d cs e ec refused =
    let rows = map row_of_parameter d.parameters in
    refused_as e (parameters_sound cs [] rows ≡ false) (IsDatabase d → ⊥)
    (λ f is. let p = parts_of d is in true_not_false (parameters_sound cs [] rows) (ap (λ (x : List Calibration). parameters_sound x [] rows) (ec ∙ p.calibrations) ∙ parameters_are_sound d.calibrations rows p.parameters_none) f) refused

pub refuse_containers : (d : Database) (ps : List Parameter) (e : DecodeError) → ps ≡ d.parameters → Refused e (containers_sound ps [] (flat_map rows_of_container d.containers) ≡ false) → Refused e (IsDatabase d → ⊥)
refuse_containers d ps e ep refused =
    let rows = flat_map rows_of_container d.containers in
    refused_as e (containers_sound ps [] rows ≡ false) (IsDatabase d → ⊥)
    (λ f is. true_not_false (containers_sound ps [] rows) (ap (λ (x : List Parameter). containers_sound x [] rows) ep ∙ containers_are_sound d.parameters rows (containers_first d.parameters rows (parts_of d is).containers_none)) f) refused

-- What was taken in of a database is that database.
pub same_lists : (d : Database) (cs : List Calibration) (ps : List Parameter) (ks : List Container) → cs ≡ calibrations_of (flat_map rows_of_calibration d.calibrations) → ps ≡ d.parameters → ks ≡ containers_of (flat_map rows_of_container d.containers)
    → IsDatabase d → ◌≡◌ {A = Database} (record { parameters = ps; calibrations = cs; containers = ks }) d
same_lists d cs ps ks ec ep ek is = sym (all_spelled d cs ps ks ec ep ek) ∙ is.spelled

-- Lists that pass a limit are no database.
pub refuse_passed : (d : Database) → is_some (limit_passed d) ≡ true → IsDatabase d → ⊥
refuse_passed d passed is = true_not_false (is_some (limit_passed d)) passed (ap is_some is.small)

-- A limit that is passed is passed by the database.
pub refuse_limits : (d made : Database) (fault : MdbFault) → (IsDatabase d → made ≡ d) → IsLimitsResult made (Err fault) → Refused (refusal fault) (IsDatabase d → ⊥)
refuse_limits d made (Bad s row rule) same passed = λ is. passed
refuse_limits d made (Limit which number) same passed = λ is. absurd (cc (sym passed ∙ ap limit_passed (same is) ∙ is.small))
refuse_limits d made OutOfMemory same passed = tt

-- ---- octets

-- The lists that octets spell are the database whose spelling they are.
pub is_given : (octets : List ℕ) (lists a : Database) → whole database_at octets ≡ Some lists → IsDatabase a → octets ≡ database_octets a → lists ≡ a
is_given octets lists a e is same = is_that database_exact tt octets lists a e (database_fits a is) same

pub lists_memory : (octets : List ℕ) (e : DecodeError) (a : Database) → Fails e (whole database_at octets) → IsDatabase a → octets ≡ database_octets a → e ≡ errors.OutOfMemory
lists_memory octets e a fails is same = is_memory database_exact tt octets e a fails (database_fits a is) same

pub again_memory : (octets : List ℕ) (lists a : Database) (e : DecodeError) → whole database_at octets ≡ Some lists → Refused e (IsDatabase lists → ⊥) → IsDatabase a → octets ≡ database_octets a → e ≡ errors.OutOfMemory
again_memory octets lists a errors.OutOfMemory read refused is same = refl
again_memory octets lists a errors.Malformed read refused is same = absurd (refused (subst IsDatabase (sym (is_given octets lists a read is same)) is))
