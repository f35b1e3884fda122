-- Rows taken in again: what is left of them, and that none is at fault where the first fault is none.
use Rattle.std.proofs.Common.{◌≡◌, ◌∙◌, ◌+◌, ◌<◌, ◌≤◌, ℕ, zero, suc, List, [], ◌∷◌, ◌++◌, length, map, take, drop, drop-cons, add-one, get_or, Option, Some, None, Result, Ok, Err, Bool, true, false, ltb, refl, ap, sym, arith, append_assoc, length-append, subst}
use Rattle.std.specs.Prelude.{◌&&◌, ◌==◌, not, slice_get, option_map, flat_map, fold, is_none, is_some}
use Rattle.std.specs.List.{AllByRecursion}
use Rattle.std.proofs.lemmas.Bool.{lt-ltb, le-ltb}
use Rattle.std.proofs.lemmas.Grind.{flat_map-append}
use Rattle.std.proofs.lemmas.List.{append-nil, map-append, length-map, take_all, drop_all, length-drop}
use Rattle.std.proofs.lemmas.List.Sums.{fold-append}
use Rattle.std.proofs.lemmas.Option.{slice_get_within, get_or_from_slice_get}
use Rattle.mdb_items.specs.declared.calibration.Calibration.{Calibration}
use Rattle.mdb_items.specs.declared.calibration.Calibrator.{Calibrator}
use Rattle.mdb_items.specs.declared.calibration.Calibrator.TheVariants.{Poly, Points, Enum}
use Rattle.mdb_rules.specs.declared.calibration_rows.Calibrations.{Calibrations}
use Rattle.mdb_items.specs.declared.container.Container.{Container}
use Rattle.mdb_items.specs.declared.container.ParameterEntry.{ParameterEntry}
use Rattle.mdb_items.specs.declared.parameter.Parameter.{Parameter}
use Rattle.mdb_items.specs.declared.rows.RowValues.{RowValues}
use Rattle.mdb_items.specs.declared.rows.ParameterRow.{ParameterRow}
use Rattle.octet_fields.specs.declared.fault.DecodeError.{DecodeError}
use Rattle.octet_fields.specs.declared.fault.DecodeError.TheVariants as errors
use Rattle.mdb_items.specs.CalibrationRows.{CalibrationRow, calibration_checks, calibrations_of, row_values_of, rows_of_calibration, with_calibration_row}
use Rattle.mdb_items.specs.Checks.{first_at, first_broken, or_else}
use Rattle.mdb_rules.specs.declared.container_rows.Containers.{Containers}
use Rattle.mdb_items.specs.declared.rows.NewContainer.{NewContainer}
use Rattle.mdb_items.specs.declared.rows.ContainerColumns.TheVariants.{Begins, Continues}
use Rattle.mdb_items.specs.declared.rows.EntryPosition.TheVariants as place
use Rattle.mdb_items.specs.declared.rows.EntryPosition.TheVariants.{At}
use Rattle.mdb_items.specs.declared.rows.Reference.TheVariants.{Nothing, Known}
use Rattle.mdb_items.specs.ContainerRows.{ContainerRow, begin_row, containers_of, entry_checks, entry_row, columns_checks, last_path, row_fault, rows_of_container, with_container_row, with_entry, with_columns, with_new_entry}
use Rattle.mdb_items.specs.Database.{calibrator_len}
use Rattle.mdb_items.specs.ParameterRows.{referenced_number, parameter_checks, parameter_of, reference_to, row_of_parameter}
use Rattle.mdb_model.specs.Rechecking.{CalibrationsRechecked, ContainersRechecked, HasRows, ParametersRechecked, Refused, RowsRechecked, CalibrationRechecked, are_sound, calibration_fault_before, calibrations_sound, container_fault_below, containers_sound, first_name, parameter_fault_below, parameters_sound, row_with, with_parameter_row}
use Rattle.mdb_rules.specs.Steps.{IsInStep}
use Rattle.mdb_items.specs.Texts.{Text, place_of}
use Rattle.mdb_items.proofs.Ends.{length-at_last, take-next}
use Rattle.mdb_rules.proofs.Passing.{all_pass, each_none, first_none}

-- ---- any rows

is_none_is : {X : Type 0} (o : Option X) → o ≡ None → is_none o ≡ true
is_none_is o e = ap is_none e

none_is : {X : Type 0} (o : Option X) → is_none o ≡ true → o ≡ None
none_is None e = refl
none_is (Some x) e = cc

pub both_true : (a b : Bool) → (a && b) ≡ true → (a ≡ true) × (b ≡ true)
both_true true b e = (refl, e)
both_true false b e = cc

drop_next : {X : Type 0} (xs : List X) (i : ℕ) (x : X) → slice_get xs i ≡ Some x → drop i xs ≡ x ∷ drop (i + 1) xs
drop_next xs i x is =
    let here : drop i xs ≡ get_or xs i x ∷ drop (suc i) xs = drop-cons xs i x (slice_get_within xs i x is) in
    here ∙ ap (λ y. y ∷ drop (suc i) xs) (get_or_from_slice_get xs i x x is) ∙ ap (λ (k : ℕ). x ∷ drop k xs) (sym (add-one i))

module _ {S R : Type 0} (fault : S → R → List R → Option ℕ) (step : S → R → S) where
  pub sound_next : (above now : S) (row : R) (rows : List R) → fault above row rows ≡ None → now ≡ step above row → are_sound fault step above (row ∷ rows) ≡ are_sound fault step now rows
  unfolding are_sound
  sound_next above now row rows none is = rw (none, is) refl

  pub sound_fails : (above : S) (row : R) (rows : List R) → is_none (fault above row rows) ≡ false → are_sound fault step above (row ∷ rows) ≡ false
  unfolding are_sound
  sound_fails above row rows some = rw some refl

  -- the rows done come to a state, and the fault at a place is that of the row there below the state of those before it
  module _ (state : List R → S) (at : List R → ℕ → Option ℕ)
      (more_done : (done : List R) (row : R) → state (done ++ row ∷ []) ≡ step (state done) row)
      (fault_here : (done : List R) (row : R) (rest : List R) → at (done ++ row ∷ rest) (length done) ≡ fault (state done) row rest) where
    sound_from : (rest done : List R) → ((j : ℕ) → j < length (done ++ rest) → at (done ++ rest) j ≡ None) → are_sound fault step (state done) rest ≡ true
    unfolding are_sound
    sound_from [] done each = refl
    sound_from (row ∷ rest) done each =
        let here : fault (state done) row rest ≡ None = sym (fault_here done row rest) ∙ each (length done) (omega (arith, length-append done (row ∷ rest))) in
        let e : (done ++ row ∷ []) ++ rest ≡ done ++ row ∷ rest = append_assoc done (row ∷ []) rest in
        let Q : List R → Type 0 = λ rows. (j : ℕ) → j < length rows → at rows j ≡ None in
        let later = sound_from rest (done ++ row ∷ []) (subst Q (sym e) each) in
        sound_next (state done) (state (done ++ row ∷ [])) row rest here (more_done done row) ∙ later

    each_from : (rest done : List R) → are_sound fault step (state done) rest ≡ true → (j : ℕ) → j < length rest → at (done ++ rest) (length done + j) ≡ None
    unfolding are_sound
    each_from [] done sound j lt = absurd (omega arith)
    each_from (row ∷ rest) done sound zero lt =
        let p = both_true (is_none (fault (state done) row rest)) (are_sound fault step (step (state done) row) rest) sound in
        let here : length done + 0 ≡ length done = omega arith in
        ap (at (done ++ row ∷ rest)) here ∙ fault_here done row rest ∙ none_is (fault (state done) row rest) p.0
    each_from (row ∷ rest) done sound (suc j) lt =
        let p = both_true (is_none (fault (state done) row rest)) (are_sound fault step (step (state done) row) rest) sound in
        let later = each_from rest (done ++ row ∷ []) (ap (λ (s : S). are_sound fault step s rest) (more_done done row) ∙ p.1) j (omega arith) in
        let here : length done + suc j ≡ length (done ++ row ∷ []) + j = omega (arith, length-append done (row ∷ [])) in
        ap (at (done ++ row ∷ rest)) here ∙ ap (λ (rows : List R). at rows (length (done ++ row ∷ []) + j)) (sym (append_assoc done (row ∷ []) rest)) ∙ later

    pub rows_sound : (rows : List R) → first_at (at rows) (length rows) ≡ None → are_sound fault step (state []) rows ≡ true
    rows_sound rows none = sound_from rows [] (each_none (at rows) (length rows) none)

    pub rows_none : (rows : List R) → are_sound fault step (state []) rows ≡ true → first_at (at rows) (length rows) ≡ None
    rows_none rows sound = first_none (at rows) (length rows) (λ j lt. let here : 0 + j ≡ j = omega arith in ap (at rows) (sym here) ∙ each_from rows [] sound j lt)

-- ---- the rows of one calibration

-- the rows that are left, whatever comes after them, if its first name is `next`
pub record RowsLeft (old : List Calibration) (name : Text) (next : Option Text) (all : List RowValues) (items : List Calibration) (i : ℕ) : Type 0 where
  pub done : items ≡ fold with_calibration_row old (map (row_with name) (take i all))
  pub left : (more : List CalibrationRow) → first_name more ≡ next → calibrations_sound old (map (row_with name) all ++ more) ≡ calibrations_sound items (map (row_with name) (drop i all) ++ more)

first_is : (name : Text) (after next : Option Text) (ys : List RowValues) (more : List CalibrationRow) → (0 < length ys → after ≡ Some name) → (length ys ≡ 0 → after ≡ next) → first_name more ≡ next → first_name (map (row_with name) ys ++ more) ≡ after
first_is name after next [] more some none e = e ∙ sym (none refl)
first_is name after next (y ∷ ys) more some none e = sym (some (omega arith))

pub rows_begin : (old : List Calibration) (name : Text) (next : Option Text) (all : List RowValues) → RowsLeft old name next all old 0
rows_begin old name next all = record { done = refl; left = λ more e. refl }

rows_go_on : (old items now : List Calibration) (name : Text) (after next : Option Text) (all : List RowValues) (i : ℕ) (x : RowValues) → slice_get all i ≡ Some x → (i + 1 < length all → after ≡ Some name) → (length all ≤ i + 1 → after ≡ next)
    → first_broken (calibration_checks items (row_with name x) after) ≡ None → now ≡ with_calibration_row items (row_with name x) → RowsLeft old name next all items i → RowsLeft old name next all now (i + 1)
rows_go_on old items now name after next all i x at some none sound is so_far =
    let row = row_with name x in
    let f = row_with name in
    record {
      done = is ∙ ap (λ (cs : List Calibration). with_calibration_row cs row) so_far.done ∙ sym (fold-append with_calibration_row old (map f (take i all)) (row ∷ []))
          ∙ ap (fold with_calibration_row old) (sym (map-append f (take i all) (x ∷ [])) ∙ ap (map f) (sym (take-next all i x at)));
      left = λ more e.
          let rest = map f (drop (i + 1) all) ++ more in
          let split : map f (drop i all) ++ more ≡ row ∷ rest = ap (λ (xs : List RowValues). map f xs ++ more) (drop_next all i x at) in
          let first : first_name rest ≡ after = first_is name after next (drop (i + 1) all) more (λ lt. some (omega (arith, length-drop (i + 1) all))) (λ z. none (omega (arith, length-drop (i + 1) all, slice_get_within all i x at))) e in
          let here : calibration_fault_before items row rest ≡ None = ap (λ (o : Option Text). first_broken (calibration_checks items row o)) first ∙ sound in
          so_far.left more e ∙ ap (calibrations_sound items) split ∙ sound_next calibration_fault_before with_calibration_row items now row rest here is;
    }

rows_fail : (old items : List Calibration) (name : Text) (after next : Option Text) (all : List RowValues) (i : ℕ) (x : RowValues) → slice_get all i ≡ Some x → (i + 1 < length all → after ≡ Some name) → (length all ≤ i + 1 → after ≡ next)
    → is_none (first_broken (calibration_checks items (row_with name x) after)) ≡ false → RowsLeft old name next all items i → (more : List CalibrationRow) → first_name more ≡ next → calibrations_sound old (map (row_with name) all ++ more) ≡ false
rows_fail old items name after next all i x at some none broken so_far more e =
    let row = row_with name x in
    let f = row_with name in
    let rest = map f (drop (i + 1) all) ++ more in
    let split : map f (drop i all) ++ more ≡ row ∷ rest = ap (λ (xs : List RowValues). map f xs ++ more) (drop_next all i x at) in
    let first : first_name rest ≡ after = first_is name after next (drop (i + 1) all) more (λ lt. some (omega (arith, length-drop (i + 1) all))) (λ z. none (omega (arith, length-drop (i + 1) all, slice_get_within all i x at))) e in
    let here : is_none (calibration_fault_before items row rest) ≡ false = ap (λ (o : Option Text). is_none (first_broken (calibration_checks items row o))) first ∙ broken in
    so_far.left more e ∙ ap (calibrations_sound items) split ∙ sound_fails calibration_fault_before with_calibration_row items row rest here

pub rows_done : (old items : List Calibration) (name : Text) (next : Option Text) (all : List RowValues) (i : ℕ) → length all ≤ i → RowsLeft old name next all items i
    → (items ≡ fold with_calibration_row old (map (row_with name) all)) × ((more : List CalibrationRow) → first_name more ≡ next → calibrations_sound old (map (row_with name) all ++ more) ≡ calibrations_sound items more)
rows_done old items name next all i le so_far = (
  so_far.done ∙ ap (λ (xs : List RowValues). fold with_calibration_row old (map (row_with name) xs)) (take_all i all le),
  λ more e. so_far.left more e ∙ ap (λ (xs : List RowValues). calibrations_sound items (map (row_with name) xs ++ more)) (drop_all i all le),
)

-- ---- what a loop or an exit has to show

pub refused_as : (e : DecodeError) (P Q : Type 0) → (P → Q) → Refused e P → Refused e Q
refused_as errors.OutOfMemory P Q f h = tt
refused_as errors.Malformed P Q f h = f h

length-row_values : (t : Calibrator) → length (row_values_of t) ≡ calibrator_len t
length-row_values (Poly rows) = length-map rows _
length-row_values (Points rows) = length-map rows _
length-row_values (Enum rows) = length-map rows _

-- the name after a row, as a test of its place gives it
abbrev NamedAfter : Calibration → Text → Option Text → Option Text → ℕ → ℕ → Type 0
NamedAfter c name after next count i = (name ≡ c.name) × (count ≡ calibrator_len c.calibrator) × (ltb (i + 1) count ≡ true → after ≡ Some name) × (ltb (i + 1) count ≡ false → after ≡ next)

named_some : (c : Calibration) (name : Text) (after next : Option Text) (count i : ℕ) → NamedAfter c name after next count i → i + 1 < length (row_values_of c.calibrator) → after ≡ Some c.name
named_some c name after next count i n lt = n.2 (lt-ltb (i + 1) count (omega (arith, n.1, length-row_values c.calibrator))) ∙ ap Some n.0

named_none : (c : Calibration) (name : Text) (after next : Option Text) (count i : ℕ) → NamedAfter c name after next count i → length (row_values_of c.calibrator) ≤ i + 1 → after ≡ next
named_none c name after next count i n le = n.3 (le-ltb (i + 1) count (omega (arith, n.1, length-row_values c.calibrator)))

pub row_more : (old mid now : Calibrations) (c : Calibration) (name : Text) (next after : Option Text) (count i : ℕ) (x : RowValues) → NamedAfter c name after next count i → slice_get (row_values_of c.calibrator) i ≡ Some x
    → (first_broken (calibration_checks mid.items.items (row_with name x) after) ≡ None) × (now.items.items ≡ with_calibration_row mid.items.items (row_with name x)) × IsInStep now
    → RowsLeft old.items.items c.name next (row_values_of c.calibrator) mid.items.items i → IsInStep now × RowsLeft old.items.items c.name next (row_values_of c.calibrator) now.items.items (i + 1)
row_more old mid now c name next after count i x n at taken so_far =
    let sound : first_broken (calibration_checks mid.items.items (row_with c.name x) after) ≡ None = subst (λ (m : Text). first_broken (calibration_checks mid.items.items (row_with m x) after) ≡ None) n.0 taken.0 in
    let is : now.items.items ≡ with_calibration_row mid.items.items (row_with c.name x) = subst (λ (m : Text). now.items.items ≡ with_calibration_row mid.items.items (row_with m x)) n.0 taken.1 in
    (taken.2, rows_go_on old.items.items mid.items.items now.items.items c.name after next (row_values_of c.calibrator) i x at (named_some c name after next count i n) (named_none c name after next count i n) sound is so_far)

pub row_refused : (old mid now : Calibrations) (c : Calibration) (name : Text) (next after : Option Text) (count i : ℕ) (x : RowValues) (e : DecodeError) → NamedAfter c name after next count i → slice_get (row_values_of c.calibrator) i ≡ Some x
    → Refused e (is_none (first_broken (calibration_checks mid.items.items (row_with name x) after)) ≡ false)
    → RowsLeft old.items.items c.name next (row_values_of c.calibrator) mid.items.items i → CalibrationRechecked old now c next (Err e)
row_refused old mid now c name next after count i x e n at refused so_far =
    refused_as e (is_none (first_broken (calibration_checks mid.items.items (row_with name x) after)) ≡ false) ((more : List CalibrationRow) → first_name more ≡ next → calibrations_sound old.items.items (rows_of_calibration c ++ more) ≡ false)
    (λ broken. rows_fail old.items.items mid.items.items c.name after next (row_values_of c.calibrator) i x at (named_some c name after next count i n) (named_none c name after next count i n)
    (subst (λ (m : Text). is_none (first_broken (calibration_checks mid.items.items (row_with m x) after)) ≡ false) n.0 broken) so_far) refused

-- ---- calibrations one after the other

first_row : (c : Calibration) (more : List CalibrationRow) → HasRows c → first_name (rows_of_calibration c ++ more) ≡ Some c.name
first_row c more has = row_values c.calibrator has
  where
    row_values : (t : Calibrator) → 0 < calibrator_len t → first_name (map (row_with c.name) (row_values_of t) ++ more) ≡ Some c.name
    row_values (Poly []) lt = absurd (omega arith)
    row_values (Poly (r ∷ rs)) lt = refl
    row_values (Points []) lt = absurd (omega arith)
    row_values (Points (r ∷ rs)) lt = refl
    row_values (Enum []) lt = absurd (omega arith)
    row_values (Enum (r ∷ rs)) lt = refl

first_of : (given : List Calibration) → AllByRecursion HasRows given → first_name (flat_map rows_of_calibration given) ≡ option_map (λ c. c.name) (slice_get given 0)
first_of [] has = refl
first_of (c ∷ given) has = first_row c (flat_map rows_of_calibration given) has.0

has_later : (given : List Calibration) (k : ℕ) → AllByRecursion HasRows given → AllByRecursion HasRows (drop k given)
has_later given zero has = has
has_later [] (suc k) has = tt
has_later (c ∷ given) (suc k) has = has_later given k has.1

head_of_drop : (given : List Calibration) (k : ℕ) → slice_get (drop k given) 0 ≡ slice_get given k
head_of_drop given zero = refl
head_of_drop [] (suc k) = refl
head_of_drop (c ∷ given) (suc k) = head_of_drop given k

pub record CalibrationsLeft (given items : List Calibration) (i : ℕ) : Type 0 where
  pub done : items ≡ fold with_calibration_row [] (flat_map rows_of_calibration (take i given))
  pub left : calibrations_sound [] (flat_map rows_of_calibration given) ≡ calibrations_sound items (flat_map rows_of_calibration (drop i given))

pub calibrations_begin : (given : List Calibration) → CalibrationsLeft given [] 0
calibrations_begin given = record { done = refl; left = refl }

later_name : (given : List Calibration) (i : ℕ) → AllByRecursion HasRows given → first_name (flat_map rows_of_calibration (drop (i + 1) given)) ≡ option_map (λ c. c.name) (slice_get given (i + 1))
later_name given i has = first_of (drop (i + 1) given) (has_later given (i + 1) has) ∙ ap (option_map (λ (c : Calibration). c.name)) (head_of_drop given (i + 1))

pub calibration_more : (given : List Calibration) (old now : Calibrations) (i : ℕ) (c : Calibration) (next : Option Text) → AllByRecursion HasRows given → slice_get given i ≡ Some c → next ≡ option_map (λ c. c.name) (slice_get given (i + 1))
    → CalibrationRechecked old now c next (Ok tt) → CalibrationsLeft given old.items.items i → CalibrationsLeft given now.items.items (i + 1)
calibration_more given old now i c next has at is taken so_far =
    let f = rows_of_calibration in
    let rest = flat_map f (drop (i + 1) given) in
    record {
      done = taken.1 ∙ ap (λ (cs : List Calibration). fold with_calibration_row cs (f c)) so_far.done ∙ sym (fold-append with_calibration_row [] (flat_map f (take i given)) (f c))
          ∙ ap (fold with_calibration_row []) (ap (λ (rs : List CalibrationRow). flat_map f (take i given) ++ rs) (sym (append-nil (f c))) ∙ sym (flat_map-append f (take i given) (c ∷ [])) ∙ ap (flat_map f) (sym (take-next given i c at)));
      left = so_far.left ∙ ap (λ (cs : List Calibration). calibrations_sound old.items.items (flat_map f cs)) (drop_next given i c at) ∙ taken.0 rest (later_name given i has ∙ sym is);
    }

pub calibration_refused : (given : List Calibration) (old now : Calibrations) (i : ℕ) (c : Calibration) (next : Option Text) (e : DecodeError) → AllByRecursion HasRows given → slice_get given i ≡ Some c → next ≡ option_map (λ c. c.name) (slice_get given (i + 1))
    → CalibrationRechecked old now c next (Err e) → CalibrationsLeft given old.items.items i → CalibrationsRechecked given (Err e)
calibration_refused given old now i c next e has at is refused so_far =
    let f = rows_of_calibration in
    refused_as e ((more : List CalibrationRow) → first_name more ≡ next → calibrations_sound old.items.items (f c ++ more) ≡ false) (calibrations_sound [] (flat_map f given) ≡ false)
    (λ fails. so_far.left ∙ ap (λ (cs : List Calibration). calibrations_sound old.items.items (flat_map f cs)) (drop_next given i c at) ∙ fails (flat_map f (drop (i + 1) given)) (later_name given i has ∙ sym is)) refused

pub calibrations_done : (given items : List Calibration) (i : ℕ) → length given ≤ i → CalibrationsLeft given items i → (calibrations_sound [] (flat_map rows_of_calibration given) ≡ true) × (items ≡ calibrations_of (flat_map rows_of_calibration given))
unfolding are_sound
calibrations_done given items i le so_far = (
  so_far.left ∙ ap (λ (cs : List Calibration). calibrations_sound items (flat_map rows_of_calibration cs)) (drop_all i given le),
  so_far.done ∙ ap (λ (cs : List Calibration). calibrations_of (flat_map rows_of_calibration cs)) (take_all i given le),
)

-- ---- parameters one after the other

link_back : (o : Option ℕ) → referenced_number (reference_to o) ≡ o
link_back None = refl
link_back (Some n) = refl

pub parameter_back : (p : Parameter) → parameter_of (row_of_parameter p) ≡ p
parameter_back p = ap (λ (o : Option ℕ). let q : Parameter = record { name = p.name; coding = p.coding; bits = p.bits; calibration = o } in q) (link_back p.calibration)

pub record ParametersLeft (calibrations : List Calibration) (given items : List Parameter) (i : ℕ) : Type 0 where
  pub done : items ≡ take i given
  pub left : parameters_sound calibrations [] (map row_of_parameter given) ≡ parameters_sound calibrations items (map row_of_parameter (drop i given))

pub parameters_begin : (calibrations : List Calibration) (given : List Parameter) → ParametersLeft calibrations given [] 0
parameters_begin calibrations given = record { done = refl; left = refl }

pub parameter_more : (calibrations : List Calibration) (given items now : List Parameter) (i : ℕ) (p : Parameter) → slice_get given i ≡ Some p → first_broken (parameter_checks calibrations items (row_of_parameter p)) ≡ None → now ≡ items ++ p ∷ []
    → ParametersLeft calibrations given items i → ParametersLeft calibrations given now (i + 1)
parameter_more calibrations given items now i p at sound is so_far = record {
  done = is ∙ ap (λ (ps : List Parameter). ps ++ p ∷ []) so_far.done ∙ sym (take-next given i p at);
  left = so_far.left ∙ ap (λ (ps : List Parameter). parameters_sound calibrations items (map row_of_parameter ps)) (drop_next given i p at)
      ∙ sound_next (parameter_fault_below calibrations) with_parameter_row items now (row_of_parameter p) (map row_of_parameter (drop (i + 1) given)) sound (is ∙ ap (λ (q : Parameter). items ++ q ∷ []) (sym (parameter_back p)));
}

pub parameter_refused : (calibrations : List Calibration) (given items : List Parameter) (i : ℕ) (p : Parameter) (e : DecodeError) → slice_get given i ≡ Some p → Refused e (is_none (first_broken (parameter_checks calibrations items (row_of_parameter p))) ≡ false)
    → ParametersLeft calibrations given items i → ParametersRechecked calibrations given (Err e)
parameter_refused calibrations given items i p e at refused so_far =
    refused_as e (is_none (first_broken (parameter_checks calibrations items (row_of_parameter p))) ≡ false) (parameters_sound calibrations [] (map row_of_parameter given) ≡ false)
    (λ broken. so_far.left ∙ ap (λ (ps : List Parameter). parameters_sound calibrations items (map row_of_parameter ps)) (drop_next given i p at)
    ∙ sound_fails (parameter_fault_below calibrations) with_parameter_row items (row_of_parameter p) (map row_of_parameter (drop (i + 1) given)) broken) refused

pub parameters_done : (calibrations : List Calibration) (given items : List Parameter) (i : ℕ) → length given ≤ i → ParametersLeft calibrations given items i → (parameters_sound calibrations [] (map row_of_parameter given) ≡ true) × (items ≡ given)
unfolding are_sound
parameters_done calibrations given items i le so_far =
    (so_far.left ∙ ap (λ (ps : List Parameter). parameters_sound calibrations items (map row_of_parameter ps)) (drop_all i given le), so_far.done ∙ take_all i given le)

-- the name of a sound parameter is new
pub fresh_parameter : (calibrations : List Calibration) (above : List Parameter) (row : ParameterRow) → first_broken (parameter_checks calibrations above row) ≡ None → place_of row.name (map (λ p. p.name) above) ≡ None
fresh_parameter calibrations above row sound = none_of (place_of row.name (map (λ p. p.name) above)) ((all_pass (parameter_checks calibrations above row) sound).1.1.0)
  where
    none_of : (o : Option ℕ) → is_some o ≡ false → o ≡ None
    none_of None e = refl
    none_of (Some n) e = cc

-- ---- containers one after the other

-- what is left of rows that items of a list have
module _ {X : Type 0} (parameters : List Parameter) (rows : X → List ContainerRow) where
  pub record Left (old : List Container) (all : List X) (items : List Container) (i : ℕ) : Type 0 where
    pub done : items ≡ fold with_container_row old (flat_map rows (take i all))
    pub left : (more : List ContainerRow) → containers_sound parameters old (flat_map rows all ++ more) ≡ containers_sound parameters items (flat_map rows (drop i all) ++ more)

  pub left_begin : (old : List Container) (all : List X) → Left old all old 0
  left_begin old all = record { done = refl; left = λ more. refl }

  split : (all : List X) (i : ℕ) (x : X) (more : List ContainerRow) → slice_get all i ≡ Some x → flat_map rows (drop i all) ++ more ≡ rows x ++ (flat_map rows (drop (i + 1) all) ++ more)
  split all i x more at = ap (λ (xs : List X). flat_map rows xs ++ more) (drop_next all i x at) ∙ append_assoc (rows x) (flat_map rows (drop (i + 1) all)) more

  pub left_more : (old items now : List Container) (all : List X) (i : ℕ) (x : X) → slice_get all i ≡ Some x → ((more : List ContainerRow) → containers_sound parameters items (rows x ++ more) ≡ containers_sound parameters now more)
      → now ≡ fold with_container_row items (rows x) → Left old all items i → Left old all now (i + 1)
  left_more old items now all i x at sound is so_far = record {
    done = is ∙ ap (λ (cs : List Container). fold with_container_row cs (rows x)) so_far.done ∙ sym (fold-append with_container_row old (flat_map rows (take i all)) (rows x))
        ∙ ap (fold with_container_row old) (ap (λ (rs : List ContainerRow). flat_map rows (take i all) ++ rs) (sym (append-nil (rows x))) ∙ sym (flat_map-append rows (take i all) (x ∷ [])) ∙ ap (flat_map rows) (sym (take-next all i x at)));
    left = λ more. so_far.left more ∙ ap (containers_sound parameters items) (split all i x more at) ∙ sound (flat_map rows (drop (i + 1) all) ++ more);
  }

  pub left_refused : (old items : List Container) (all : List X) (i : ℕ) (x : X) (e : DecodeError) → slice_get all i ≡ Some x → Refused e ((more : List ContainerRow) → containers_sound parameters items (rows x ++ more) ≡ false)
      → Left old all items i → Refused e ((more : List ContainerRow) → containers_sound parameters old (flat_map rows all ++ more) ≡ false)
  left_refused old items all i x e at refused so_far =
      refused_as e ((more : List ContainerRow) → containers_sound parameters items (rows x ++ more) ≡ false) ((more : List ContainerRow) → containers_sound parameters old (flat_map rows all ++ more) ≡ false)
      (λ fails more. so_far.left more ∙ ap (containers_sound parameters items) (split all i x more at) ∙ fails (flat_map rows (drop (i + 1) all) ++ more)) refused

  pub left_done : (old items : List Container) (all : List X) (i : ℕ) → length all ≤ i → Left old all items i
      → ((more : List ContainerRow) → containers_sound parameters old (flat_map rows all ++ more) ≡ containers_sound parameters items more) × (items ≡ fold with_container_row old (flat_map rows all))
  left_done old items all i le so_far = (
    λ more. so_far.left more ∙ ap (λ (xs : List X). containers_sound parameters items (flat_map rows xs ++ more)) (drop_all i all le),
    so_far.done ∙ ap (λ (xs : List X). fold with_container_row old (flat_map rows xs)) (take_all i all le),
  )

-- one row
pub one_taken : (parameters : List Parameter) (old now : List Container) (row : ContainerRow) → row_fault parameters old row ≡ None → now ≡ with_container_row old row
    → (more : List ContainerRow) → containers_sound parameters old (row ∷ more) ≡ containers_sound parameters now more
one_taken parameters old now row none is more = sound_next (container_fault_below parameters) with_container_row old now row more none is

pub one_fails : (parameters : List Parameter) (old : List Container) (row : ContainerRow) → is_none (row_fault parameters old row) ≡ false → (more : List ContainerRow) → containers_sound parameters old (row ∷ more) ≡ false
one_fails parameters old row some more = sound_fails (container_fault_below parameters) with_container_row old row more some

-- entries are rows one by one
pub one_each : {X : Type 0} (f : X → ContainerRow) (xs : List X) → flat_map (λ x. f x ∷ []) xs ≡ map f xs
one_each f [] = refl
one_each f (x ∷ xs) = ap (λ rs. f x ∷ rs) (one_each f xs)

-- the item of a loop stands at its place
pub at_index : {X : Type 0} (xs : List X) (i : ℕ) (x : X) → i < length xs → x ≡ get_or xs i x → slice_get xs i ≡ Some x
at_index [] i x lt is = absurd (omega arith)
at_index (y ∷ xs) zero x lt is = ap Some (sym is)
at_index (y ∷ xs) (suc i) x lt is = at_index xs i x (omega arith) is

-- ---- a container: its beginning, and then its entries

pub begun_length : (old : List Container) (c : Container) → 0 < length (with_container_row old (begin_row c))
begun_length old c = omega (arith, length-append old (record { name = c.name; parent = referenced_number (reference_to c.parent); archive = c.archive; condition = c.condition; entries = [] } ∷ []))

is_some_none : (o : Option ℕ) → is_some o ≡ false → o ≡ None
is_some_none None e = refl
is_some_none (Some n) e = cc

some_not_none : {X : Type 0} (o rest : Option X) → is_some o ≡ true → is_none (or_else o rest) ≡ false
some_not_none None rest e = cc
some_not_none (Some x) rest e = refl

abbrev new_container_of : Container → NewContainer
new_container_of c = record { name = c.name; parent = reference_to c.parent; condition = Some c.condition; archive = Some c.archive }

pub begin_fails : (parameters : List Parameter) (old : List Container) (c : Container) (rule : Option ℕ) → rule ≡ first_broken ((2, not (6 == 6)) ∷ columns_checks old (Begins (new_container_of c))) → is_some rule ≡ true
    → (more : List ContainerRow) → containers_sound parameters old ((begin_row c ∷ []) ++ more) ≡ false
begin_fails parameters old c rule is some more =
    let columns = first_broken ((2, not (6 == 6)) ∷ columns_checks old (Begins (new_container_of c))) in
    one_fails parameters old (begin_row c) (some_not_none columns (first_broken (entry_checks parameters (last_path (with_columns old (Begins (new_container_of c)))) false Nothing place.Nothing)) (ap is_some (sym is) ∙ some)) more

pub begin_taken : (parameters : List Parameter) (old now : List Container) (c : Container) (rule : Option ℕ) → rule ≡ first_broken ((2, not (6 == 6)) ∷ columns_checks old (Begins (new_container_of c))) → is_some rule ≡ false → now ≡ with_columns old (Begins (new_container_of c))
    → ((more : List ContainerRow) → containers_sound parameters old ((begin_row c ∷ []) ++ more) ≡ containers_sound parameters now more) × (now ≡ fold with_container_row old (begin_row c ∷ []))
begin_taken parameters old now c rule is none same =
    let columns : first_broken ((2, not (6 == 6)) ∷ columns_checks old (Begins (new_container_of c))) ≡ None = sym is ∙ is_some_none rule none in
    let sound : row_fault parameters old (begin_row c) ≡ None = ap (λ (o : Option ℕ). or_else o None) columns in
    (one_taken parameters old now (begin_row c) sound same, same)

continuing : (old : List Container) → 0 < length old → first_broken ((2, not (6 == 6)) ∷ columns_checks old (Continues false)) ≡ None
continuing [] some = absurd (omega arith)
continuing (k ∷ old) some = refl

pub entry_fails : (parameters : List Parameter) (old : List Container) (e : ParameterEntry) (rule : Option ℕ) → 0 < length old → rule ≡ first_broken (entry_checks parameters (last_path old) true (Known e.parameter) (At e.at)) → is_some rule ≡ true
    → (more : List ContainerRow) → containers_sound parameters old ((entry_row e ∷ []) ++ more) ≡ false
entry_fails parameters old e rule begun is some more =
    let fault : row_fault parameters old (entry_row e) ≡ rule = ap (λ (o : Option ℕ). or_else o (first_broken (entry_checks parameters (last_path old) true (Known e.parameter) (At e.at)))) (continuing old begun) ∙ sym is in
    one_fails parameters old (entry_row e) (ap is_none fault ∙ some_is_none rule some) more
  where
    some_is_none : (o : Option ℕ) → is_some o ≡ true → is_none o ≡ false
    some_is_none None e = cc
    some_is_none (Some n) e = refl

pub entry_taken : (parameters : List Parameter) (old now : List Container) (e : ParameterEntry) (rule : Option ℕ) → 0 < length old → rule ≡ first_broken (entry_checks parameters (last_path old) true (Known e.parameter) (At e.at)) → is_some rule ≡ false
    → now ≡ with_entry old (Known e.parameter) (At e.at) → ((more : List ContainerRow) → containers_sound parameters old ((entry_row e ∷ []) ++ more) ≡ containers_sound parameters now more) × (now ≡ fold with_container_row old (entry_row e ∷ []))
entry_taken parameters old now e rule begun is none same =
    let fault : row_fault parameters old (entry_row e) ≡ None = ap (λ (o : Option ℕ). or_else o (first_broken (entry_checks parameters (last_path old) true (Known e.parameter) (At e.at)))) (continuing old begun) ∙ sym is ∙ is_some_none rule none in
    (one_taken parameters old now (entry_row e) fault same, same)

pub begin_refused : (parameters : List Parameter) (old mid : Containers) (c : Container) (e : DecodeError) → RowsRechecked parameters old mid (begin_row c ∷ []) (Err e) → RowsRechecked parameters old mid (rows_of_container c) (Err e)
begin_refused parameters old mid c e refused =
    refused_as e ((more : List ContainerRow) → containers_sound parameters old.items.items ((begin_row c ∷ []) ++ more) ≡ false) ((more : List ContainerRow) → containers_sound parameters old.items.items (rows_of_container c ++ more) ≡ false)
    (λ fails more. fails (map entry_row c.entries ++ more)) refused

-- The beginning was taken in, and then the entries are or aren't.
pub container_rest : (parameters : List Parameter) (old mid now : Containers) (c : Container) (result : Result (Unit {0}) DecodeError) → RowsRechecked parameters old mid (begin_row c ∷ []) (Ok tt) → RowsRechecked parameters mid now (flat_map (λ e. entry_row e ∷ []) c.entries) result
    → RowsRechecked parameters old now (rows_of_container c) result
container_rest parameters old mid now c (Ok _) begun taken =
    let each = one_each entry_row c.entries in (
      λ more. begun.0 (map entry_row c.entries ++ more) ∙ ap (λ (rows : List ContainerRow). containers_sound parameters mid.items.items (rows ++ more)) (sym each) ∙ taken.0 more,
      taken.1 ∙ ap (λ (cs : List Container). fold with_container_row cs (flat_map (λ e. entry_row e ∷ []) c.entries)) begun.1 ∙ ap (fold with_container_row (with_container_row old.items.items (begin_row c))) each,
      taken.2,
    )
container_rest parameters old mid now c (Err e) begun refused =
    let rows = flat_map (λ e. entry_row e ∷ []) c.entries in
    let each = one_each entry_row c.entries in
    refused_as e ((more : List ContainerRow) → containers_sound parameters mid.items.items (rows ++ more) ≡ false) ((more : List ContainerRow) → containers_sound parameters old.items.items (rows_of_container c ++ more) ≡ false)
    (λ fails more. begun.0 (map entry_row c.entries ++ more) ∙ ap (λ (rs : List ContainerRow). containers_sound parameters mid.items.items (rs ++ more)) (sym each) ∙ fails more) refused

-- all containers, nothing after them
pub containers_done : (parameters : List Parameter) (given items : List Container) (i : ℕ) → length given ≤ i → Left parameters rows_of_container [] given items i
    → (containers_sound parameters [] (flat_map rows_of_container given) ≡ true) × (items ≡ containers_of (flat_map rows_of_container given))
unfolding are_sound
containers_done parameters given items i le so_far =
    let d = left_done parameters rows_of_container [] items given i le so_far in
    (ap (containers_sound parameters []) (sym (append-nil (flat_map rows_of_container given))) ∙ d.0 [], d.1)

pub containers_refused : (parameters : List Parameter) (given : List Container) (e : DecodeError) → Refused e ((more : List ContainerRow) → containers_sound parameters [] (flat_map rows_of_container given ++ more) ≡ false) → ContainersRechecked parameters given (Err e)
containers_refused parameters given e refused =
    refused_as e ((more : List ContainerRow) → containers_sound parameters [] (flat_map rows_of_container given ++ more) ≡ false) (containers_sound parameters [] (flat_map rows_of_container given) ≡ false)
    (λ fails. ap (containers_sound parameters []) (sym (append-nil (flat_map rows_of_container given))) ∙ fails []) refused

-- an entry more leaves the containers as many
pub entered_length : (e : ParameterEntry) (old now : List Container) → now ≡ fold with_container_row old (entry_row e ∷ []) → 0 < length old → 0 < length now
entered_length e old now is some = omega (arith, ap length is, length-at_last (with_new_entry e) old)
