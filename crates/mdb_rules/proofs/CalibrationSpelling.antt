-- Rows of calibrations that break no rule are the rows of the calibrations that they spell.
use Rattle.std.proofs.Common.{◌≡◌, ◌∙◌, ◌+◌, ◌<◌, ◌≤◌, ℕ, zero, suc, List, [], ◌∷◌, ◌++◌, length, map, take, Option, Some, None, Bool, true, false, refl, ap, sym, arith, append_assoc, add-one, subst}
use Rattle.std.specs.Prelude.{slice_get, option_map, flat_map, if◌then◌else◌}
use Rattle.std.specs.Str.{bytes_eq}
use Rattle.std.proofs.lemmas.Grind.{flat_map-append}
use Rattle.std.proofs.lemmas.List.{append-nil, map-append, take_all}
use Rattle.std.proofs.lemmas.List.Sums.{fold-append}
use Rattle.std.proofs.lemmas.Option.{same_Some}
use Rattle.std.proofs.lemmas.Slice.Eq.{bytes_eq-Decides}
use Rattle.mdb_items.specs.declared.calibration.Calibration.{Calibration}
use Rattle.mdb_items.specs.declared.calibration.Calibrator.{Calibrator}
use Rattle.mdb_items.specs.declared.calibration.Calibrator.TheVariants.{Poly, Points, Enum}
use Rattle.mdb_items.specs.declared.rows.RowValues.{RowValues}
use Rattle.mdb_items.specs.declared.rows.RowValues.TheVariants.{Unread, Coefficient, Point, Label}
use Rattle.mdb_items.specs.CalibrationRows.{CalibrationRow, calibration_checks, calibration_fault, calibration_fault_at, calibrations_of, row_values_of, continued, empty_calibrator, has_x, has_y, is_other_kind, is_unread, rows_of_calibration, calibrator_named, with_calibration_row, with_name, with_new_row, calibrator_with_row}
use Rattle.mdb_items.specs.Checks.{first_at, first_broken}
use Rattle.mdb_items.specs.Lists.{at_last}
use Rattle.mdb_items.specs.Texts.{Text}
use Rattle.mdb_items.proofs.Ends.{at_last-push, item_at, last_of-push, snoc, take-next}
use Rattle.mdb_rules.proofs.Passing.{all_pass, each_none, is_same, is_true}

-- values of a calibrator's kind become its last row
row_values_row : (t : Calibrator) (row_values : RowValues) → is_other_kind (Some t) row_values ≡ false → has_x row_values ≡ true → has_y row_values ≡ true → row_values_of (calibrator_with_row t row_values) ≡ row_values_of t ++ row_values ∷ []
row_values_row (Poly rows) Unread k x y = cc
row_values_row (Poly rows) (Coefficient None m) k x y = cc
row_values_row (Poly rows) (Coefficient (Some e) None) k x y = cc
row_values_row (Poly rows) (Coefficient (Some e) (Some m)) k x y = map-append _ rows _
row_values_row (Poly rows) (Point n m) k x y = cc
row_values_row (Poly rows) (Label n l) k x y = cc
row_values_row (Points rows) Unread k x y = cc
row_values_row (Points rows) (Coefficient e m) k x y = cc
row_values_row (Points rows) (Point None m) k x y = cc
row_values_row (Points rows) (Point (Some n) None) k x y = cc
row_values_row (Points rows) (Point (Some n) (Some m)) k x y = map-append _ rows _
row_values_row (Points rows) (Label n l) k x y = cc
row_values_row (Enum rows) Unread k x y = cc
row_values_row (Enum rows) (Coefficient e m) k x y = cc
row_values_row (Enum rows) (Point n m) k x y = cc
row_values_row (Enum rows) (Label None l) k x y = cc
row_values_row (Enum rows) (Label (Some n) l) k x y = map-append _ rows _

pub own_kind : (row_values : RowValues) → is_unread row_values ≡ false → is_other_kind (Some (empty_calibrator row_values)) row_values ≡ false
own_kind Unread u = cc
own_kind (Coefficient e m) u = refl
own_kind (Point n m) u = refl
own_kind (Label n l) u = refl

no_row_values : (row_values : RowValues) → row_values_of (empty_calibrator row_values) ≡ []
no_row_values Unread = refl
no_row_values (Coefficient e m) = refl
no_row_values (Point n m) = refl
no_row_values (Label n l) = refl

-- the row of a name with some values
abbrev row_with : Text → RowValues → CalibrationRow
row_with name row_values = record { fields = 4; name = name; row_values = row_values }

-- a calibration with one more row has that row at its end
more_rows : (c : Calibration) (row_values : RowValues) → is_other_kind (Some c.calibrator) row_values ≡ false → has_x row_values ≡ true → has_y row_values ≡ true
    → rows_of_calibration (with_new_row row_values c) ≡ rows_of_calibration c ++ row_with c.name row_values ∷ []
more_rows c row_values k x y = ap (map (row_with c.name)) (row_values_row c.calibrator row_values k x y) ∙ map-append (row_with c.name) (row_values_of c.calibrator) (row_values ∷ [])

pub if_some : {X : Type 0} (b : Bool) (x y : X) → (if b then Some x else None) ≡ Some y → (b ≡ true) × (x ≡ y)
if_some true x y e = (refl, same_Some x y e)
if_some false x y e = cc

-- the last calibration has the name
pub last_named : (c : Calibration) (name : Text) (t : Calibrator) → calibrator_named name (Some c) ≡ Some t → (c.name ≡ name) × (c.calibrator ≡ t)
last_named c name t e =
    let p = if_some (bytes_eq c.name name) c.calibrator t e in
    ((bytes_eq-Decides c.name name).0 p.0, p.1)

-- a new calibration has the row alone
new_row : (above : List Calibration) (row : CalibrationRow) → continued above row.name ≡ None → row.fields ≡ 4 → is_unread row.row_values ≡ false → has_x row.row_values ≡ true → has_y row.row_values ≡ true
    → flat_map rows_of_calibration (with_calibration_row above row) ≡ flat_map rows_of_calibration above ++ row ∷ []
new_row above row fresh fields u x y =
    let c : Calibration = record { name = row.name; calibrator = empty_calibrator row.row_values } in
    let begun : with_name above row.name row.row_values ≡ above ++ c ∷ [] = rw fresh refl in
    let grown : with_calibration_row above row ≡ above ++ with_new_row row.row_values c ∷ [] = ap (at_last (with_new_row row.row_values)) begun ∙ at_last-push (with_new_row row.row_values) above c in
    let own : rows_of_calibration (with_new_row row.row_values c) ≡ row_with row.name row.row_values ∷ [] =
    more_rows c row.row_values (own_kind row.row_values u) x y ∙ ap (λ (row_values : List RowValues). map (row_with row.name) row_values ++ row_with row.name row.row_values ∷ []) (no_row_values row.row_values) in
    let same : row_with row.name row.row_values ≡ row = ap (λ (n : ℕ). let r : CalibrationRow = record { fields = n; name = row.name; row_values = row.row_values } in r) (sym fields) in
    ap (flat_map rows_of_calibration) grown ∙ flat_map-append rows_of_calibration above (with_new_row row.row_values c ∷ [])
    ∙ ap (λ (rs : List CalibrationRow). flat_map rows_of_calibration above ++ (rs ++ [])) (own ∙ ap (λ (r : CalibrationRow). r ∷ []) same)

-- the last calibration has the row at its end
next_row : (front : List Calibration) (c : Calibration) (row : CalibrationRow) (t : Calibrator) → continued (front ++ c ∷ []) row.name ≡ Some t → row.fields ≡ 4 → is_other_kind (Some t) row.row_values ≡ false → has_x row.row_values ≡ true → has_y row.row_values ≡ true
    → flat_map rows_of_calibration (with_calibration_row (front ++ c ∷ []) row) ≡ flat_map rows_of_calibration (front ++ c ∷ []) ++ row ∷ []
next_row front c row t is fields k x y =
    let last : calibrator_named row.name (Some c) ≡ Some t = ap (calibrator_named row.name) (sym (last_of-push front c)) ∙ is in
    let named = last_named c row.name t last in
    let kind : is_other_kind (Some c.calibrator) row.row_values ≡ false = ap (λ (u : Calibrator). is_other_kind (Some u) row.row_values) named.1 ∙ k in
    let begun : with_name (front ++ c ∷ []) row.name row.row_values ≡ front ++ c ∷ [] = rw is refl in
    let grown : with_calibration_row (front ++ c ∷ []) row ≡ front ++ with_new_row row.row_values c ∷ [] = ap (at_last (with_new_row row.row_values)) begun ∙ at_last-push (with_new_row row.row_values) front c in
    let same : row_with c.name row.row_values ≡ row = ap (λ (n : Text). row_with n row.row_values) named.0 ∙ ap (λ (n : ℕ). let r : CalibrationRow = record { fields = n; name = row.name; row_values = row.row_values } in r) (sym fields) in
    let own : rows_of_calibration (with_new_row row.row_values c) ≡ rows_of_calibration c ++ row ∷ [] =
    more_rows c row.row_values kind x y ∙ ap (λ (r : CalibrationRow). rows_of_calibration c ++ r ∷ []) same in
    let f = rows_of_calibration in
    ap (flat_map f) grown ∙ flat_map-append f front (with_new_row row.row_values c ∷ []) ∙ ap (λ (rs : List CalibrationRow). flat_map f front ++ rs) (append-nil (f (with_new_row row.row_values c)) ∙ own)
    ∙ sym (append_assoc (flat_map f front) (f c) (row ∷ [])) ∙ ap (λ (rs : List CalibrationRow). rs ++ row ∷ []) (sym (flat_map-append f front (c ∷ []) ∙ ap (λ (rs : List CalibrationRow). flat_map f front ++ rs) (append-nil (f c))))

added : (above : List Calibration) (row : CalibrationRow) (o : Option Calibrator) → continued above row.name ≡ o → row.fields ≡ 4 → is_unread row.row_values ≡ false → is_other_kind o row.row_values ≡ false → has_x row.row_values ≡ true → has_y row.row_values ≡ true
    → flat_map rows_of_calibration (with_calibration_row above row) ≡ flat_map rows_of_calibration above ++ row ∷ []
added above row None is fields u k x y = new_row above row is fields u x y
added [] row (Some t) is fields u k x y = cc
added (a ∷ above) row (Some t) is fields u k x y =
    let parts = snoc (a ∷ above) (omega arith) in
    let P : List Calibration → Type 0 = λ cs. continued cs row.name ≡ Some t → flat_map rows_of_calibration (with_calibration_row cs row) ≡ flat_map rows_of_calibration cs ++ row ∷ [] in
    subst P (sym parts.2) (λ e. next_row parts.0 parts.1 row t e fields k x y) is

-- a row that breaks no rule becomes the last row
pub row_added : (above : List Calibration) (row : CalibrationRow) (next : Option Text) → first_broken (calibration_checks above row next) ≡ None
    → flat_map rows_of_calibration (with_calibration_row above row) ≡ flat_map rows_of_calibration above ++ row ∷ []
row_added above row next sound =
    let p = all_pass (calibration_checks above row next) sound in
    added above row (continued above row.name) refl (is_same row.fields 4 p.0) p.1.1.1.0 p.1.1.1.1.0 (is_true (has_x row.row_values) p.1.1.1.1.1.0) (is_true (has_y row.row_values) p.1.1.1.1.1.1.1.0)

sound_row : (above : List Calibration) (row : CalibrationRow) (o : Option CalibrationRow) (next : Option CalibrationRow) → o ≡ Some row → calibration_fault above o next ≡ None → first_broken (calibration_checks above row (option_map (λ r. r.name) next)) ≡ None
sound_row above row o next is sound = rw is at sound

-- the rows so far are those of the calibrations that they spell
upto : (rows : List CalibrationRow) → ((j : ℕ) → j < length rows → calibration_fault_at rows j ≡ None) → (i : ℕ) → i ≤ length rows
    → flat_map rows_of_calibration (calibrations_of (take i rows)) ≡ take i rows
unfolding calibration_fault_at
upto rows sound zero fits = refl
upto rows sound (suc i) fits =
    let found = item_at rows i (omega arith) in
    let row = found.0 in
    let more : take (suc i) rows ≡ take i rows ++ row ∷ [] = rw add-one at (take-next rows i row found.1) in
    let before = upto rows sound i (omega arith) in
    let ok = sound_row (calibrations_of (take i rows)) row (slice_get rows i) (slice_get rows (i + 1)) found.1 (sound i (omega arith)) in
    let step = row_added (calibrations_of (take i rows)) row (option_map (λ r. r.name) (slice_get rows (i + 1))) ok in
    let grown : calibrations_of (take (suc i) rows) ≡ with_calibration_row (calibrations_of (take i rows)) row = ap calibrations_of more ∙ fold-append with_calibration_row [] (take i rows) (row ∷ []) in
    ap (flat_map rows_of_calibration) grown ∙ step ∙ ap (λ (rs : List CalibrationRow). rs ++ row ∷ []) before ∙ sym more

-- rows that break no rule are those of the calibrations that they spell
pub calibrations_respelled : (rows : List CalibrationRow) → first_at (calibration_fault_at rows) (length rows) ≡ None → flat_map rows_of_calibration (calibrations_of rows) ≡ rows
calibrations_respelled rows sound =
    let all : take (length rows) rows ≡ rows = take_all (length rows) rows (omega arith) in
    let here = upto rows (each_none (calibration_fault_at rows) (length rows) sound) (length rows) (omega arith) in
    ap (λ (rs : List CalibrationRow). flat_map rows_of_calibration (calibrations_of rs)) (sym all) ∙ here ∙ all
