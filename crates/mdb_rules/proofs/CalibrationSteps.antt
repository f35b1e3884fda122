-- The names and the numbers beside the calibrations.
use Rattle.std.proofs.Common.{◌≡◌, ◌∙◌, ◌<◌, ℕ, suc, List, [], ◌∷◌, ◌++◌, length, map, set, Option, Some, None, false, refl, ap, sym, arith, subst}
use Rattle.std.specs.Prelude.{slice_get, is_some, not, ◌&&◌, ℤ}
use Rattle.std.proofs.lemmas.List.{append-nil, map-append}
use Rattle.mdb_items.specs.declared.calibration.Calibration.{Calibration}
use Rattle.mdb_items.specs.declared.calibration.Calibrator.{Calibrator}
use Rattle.mdb_items.specs.declared.calibration.Calibrator.TheVariants.{Poly, Points, Enum}
use Rattle.mdb_items.specs.declared.calibration.EnumRow.{EnumRow}
use Rattle.mdb_rules.specs.declared.calibration_rows.Calibrations.{Calibrations}
use Rattle.mdb_items.specs.declared.rows.RowValues.{RowValues}
use Rattle.mdb_items.specs.declared.rows.RowValues.TheVariants.{Unread, Coefficient, Point, Label}
use Rattle.mdb_items.specs.CalibrationRows.{AreNew, continued, empty_calibrator, enum_numbers, is_other_kind, label_number, repeats, calibrator_named, calibrator_of_last, with_name, with_new_row, calibrator_with_row}
use Rattle.mdb_items.specs.Lists.{at_last, last_of}
use Rattle.mdb_items.specs.Numbers.{has_number}
use Rattle.mdb_rules.specs.Steps.{IsInStep}
use Rattle.mdb_items.specs.Texts.{Text}
use Rattle.mdb_rules.proofs.CalibrationSpelling.{last_named}
use Rattle.mdb_items.proofs.Ends.{at_last-push, last_of-push, length-push, map-at_last, set-last, snoc}

-- a row that doesn't repeat is new among the numbers
pub new_number : (o : Option Calibrator) (row_values : RowValues) → is_other_kind o row_values ≡ false → repeats o row_values ≡ false → AreNew (enum_numbers o) row_values
new_number o Unread k r = tt
new_number o (Coefficient e y) k r = tt
new_number o (Point x y) k r = tt
new_number o (Label None y) k r = tt
new_number None (Label (Some x) y) k r = refl
new_number (Some (Poly rows)) (Label (Some x) y) k r = cc
new_number (Some (Points rows)) (Label (Some x) y) k r = cc
new_number (Some (Enum rows)) (Label (Some x) y) k r = r

-- one more row of a calibrator's kind
more_numbers : (t : Calibrator) (row_values : RowValues) → is_other_kind (Some t) row_values ≡ false → enum_numbers (Some (calibrator_with_row t row_values)) ≡ enum_numbers (Some t) ++ label_number row_values
more_numbers (Poly rows) Unread k = cc
more_numbers (Poly rows) (Coefficient None y) k = refl
more_numbers (Poly rows) (Coefficient (Some e) None) k = refl
more_numbers (Poly rows) (Coefficient (Some e) (Some m)) k = refl
more_numbers (Poly rows) (Point x y) k = cc
more_numbers (Poly rows) (Label x y) k = cc
more_numbers (Points rows) Unread k = cc
more_numbers (Points rows) (Coefficient e y) k = cc
more_numbers (Points rows) (Point None y) k = refl
more_numbers (Points rows) (Point (Some x) None) k = refl
more_numbers (Points rows) (Point (Some x) (Some m)) k = refl
more_numbers (Points rows) (Label x y) k = cc
more_numbers (Enum rows) Unread k = cc
more_numbers (Enum rows) (Coefficient e y) k = cc
more_numbers (Enum rows) (Point x y) k = cc
more_numbers (Enum rows) (Label None y) k = sym (append-nil (map _ rows))
more_numbers (Enum rows) (Label (Some x) y) k = map-append _ rows _

first_numbers : (row_values : RowValues) → enum_numbers (Some (calibrator_with_row (empty_calibrator row_values) row_values)) ≡ label_number row_values
first_numbers Unread = refl
first_numbers (Coefficient None y) = refl
first_numbers (Coefficient (Some e) None) = refl
first_numbers (Coefficient (Some e) (Some m)) = refl
first_numbers (Point None y) = refl
first_numbers (Point (Some x) None) = refl
first_numbers (Point (Some x) (Some m)) = refl
first_numbers (Label None y) = refl
first_numbers (Label (Some x) y) = refl

numbers_of_last : (cs : List Calibration) → List ℤ
numbers_of_last cs = enum_numbers (calibrator_of_last (last_of cs))

-- the numbers of the last calibration, once it has the row
pub numbers_after : (above : List Calibration) (name : Text) (row_values : RowValues) (o : Option Calibrator) → continued above name ≡ o → is_other_kind o row_values ≡ false
    → enum_numbers (calibrator_of_last (last_of (at_last (with_new_row row_values) (with_name above name row_values)))) ≡ enum_numbers o ++ label_number row_values
numbers_after above name row_values None is k =
    let c : Calibration = record { name = name; calibrator = empty_calibrator row_values } in
    let begun : with_name above name row_values ≡ above ++ c ∷ [] = rw is refl in
    let grown : at_last (with_new_row row_values) (with_name above name row_values) ≡ above ++ with_new_row row_values c ∷ [] = ap (at_last (with_new_row row_values)) begun ∙ at_last-push (with_new_row row_values) above c in
    ap (λ (cs : List Calibration). enum_numbers (calibrator_of_last (last_of cs))) grown ∙ ap (λ (x : Option Calibration). enum_numbers (calibrator_of_last x)) (last_of-push above (with_new_row row_values c)) ∙ first_numbers row_values
numbers_after [] name row_values (Some t) is k = cc
numbers_after (a ∷ above) name row_values (Some t) is k =
    let parts = snoc (a ∷ above) (omega arith) in
    let P : List Calibration → Type 0 = λ cs. continued cs name ≡ Some t → enum_numbers (calibrator_of_last (last_of (at_last (with_new_row row_values) (with_name cs name row_values)))) ≡ enum_numbers (Some t) ++ label_number row_values in
    subst P (sym parts.2) (λ e. at_end parts.0 parts.1 e) is
  where
    at_end : (front : List Calibration) (c : Calibration) → continued (front ++ c ∷ []) name ≡ Some t → enum_numbers (calibrator_of_last (last_of (at_last (with_new_row row_values) (with_name (front ++ c ∷ []) name row_values)))) ≡ enum_numbers (Some t) ++ label_number row_values
    at_end front c e =
        let last : calibrator_named name (Some c) ≡ Some t = ap (calibrator_named name) (sym (last_of-push front c)) ∙ e in
        let named = last_named c name t last in
        let begun : with_name (front ++ c ∷ []) name row_values ≡ front ++ c ∷ [] = rw e refl in
        let grown : at_last (with_new_row row_values) (with_name (front ++ c ∷ []) name row_values) ≡ front ++ with_new_row row_values c ∷ [] = ap (at_last (with_new_row row_values)) begun ∙ at_last-push (with_new_row row_values) front c in
        ap (λ (cs : List Calibration). enum_numbers (calibrator_of_last (last_of cs))) grown ∙ ap (λ (x : Option Calibration). enum_numbers (calibrator_of_last x)) (last_of-push front (with_new_row row_values c))
        ∙ ap (λ (u : Calibrator). enum_numbers (Some (calibrator_with_row u row_values))) named.1 ∙ more_numbers t row_values k

-- what is continued is the last calibration's calibrator
pub continued_last : (cs : List Calibration) (name : Text) (t : Calibrator) → continued cs name ≡ Some t → calibrator_of_last (last_of cs) ≡ Some t
continued_last cs name t is = of_last (last_of cs) is
  where
    of_last : (o : Option Calibration) → calibrator_named name o ≡ Some t → calibrator_of_last o ≡ Some t
    of_last None e = cc
    of_last (Some c) e = ap (λ (u : Calibrator). Some u) ((last_named c name t e).1)

not_empty : (cs : List Calibration) (name : Text) (t : Calibrator) → continued cs name ≡ Some t → 0 < length cs
not_empty [] name t e = cc
not_empty (c ∷ cs) name t e = omega arith

some_by : (cs : List Calibration) (name : Text) (row_values : RowValues) (o : Option Calibrator) → continued cs name ≡ o → 0 < length (with_name cs name row_values)
some_by cs name row_values None is =
    let c : Calibration = record { name = name; calibrator = empty_calibrator row_values } in
    rw is (omega (arith, length-push cs c))
some_by cs name row_values (Some t) is = rw is (not_empty cs name t is)

-- some calibration is there once the name is
pub some_named : (cs : List Calibration) (name : Text) (row_values : RowValues) → 0 < length (with_name cs name row_values)
some_named cs name row_values = some_by cs name row_values (continued cs name) refl

-- a name that neither continues nor began an earlier group is new
pub fresh_name : (o : Option Calibrator) (p : Option ℕ) → (not (is_some o) && is_some p) ≡ false → o ≡ None → p ≡ None
fresh_name None None e is = refl
fresh_name None (Some n) e is = cc
fresh_name (Some t) p e is = cc

-- the last calibration written with one more row
pub written : (items : List Calibration) (n : ℕ) (old : Calibration) (t : Calibrator) (row_values : RowValues) → suc n ≡ length items → slice_get items n ≡ Some old → t ≡ calibrator_with_row old.calibrator row_values
    → set items n (record { name = old.name; calibrator = t }) ≡ at_last (with_new_row row_values) items
written items n old t row_values e is same =
    ap (λ (u : Calibrator). let c : Calibration = record { name = old.name; calibrator = u } in set items n c) same ∙ set-last (with_new_row row_values) items n old e is

-- once a row is added, names and numbers are in step again
pub in_step_after : (above : List Calibration) (name : Text) (row_values : RowValues) (o p : Calibrations) → is_other_kind (continued above name) row_values ≡ false
    → o.items.items ≡ with_name above name row_values → o.names ≡ map (λ c. c.name) o.items.items → o.numbers ≡ enum_numbers (continued above name)
    → p.items.items ≡ at_last (with_new_row row_values) o.items.items → p.names ≡ o.names → p.numbers ≡ o.numbers ++ label_number row_values → IsInStep p
in_step_after above name row_values o p kind opened names numbers items same more = record {
  names =
      let kept = map-at_last (λ (c : Calibration). c.name) (with_new_row row_values) o.items.items (λ c. refl) in
      same ∙ names ∙ sym kept ∙ ap (map (λ (c : Calibration). c.name)) (sym items);
  numbers =
      let after = numbers_after above name row_values (continued above name) refl kind in
      more ∙ ap (λ (xs : List ℤ). xs ++ label_number row_values) numbers ∙ sym after ∙ ap (λ (cs : List Calibration). enum_numbers (calibrator_of_last (last_of cs))) (ap (at_last (with_new_row row_values)) (sym opened) ∙ sym items);
}

-- a raw number among those of an enum
pub repeats_enum : (o : Option Calibrator) (numbers : List ℤ) (rows : List EnumRow) (row_values : RowValues) (x : ℤ) (label : Text) → o ≡ Some (Enum rows) → row_values ≡ Label (Some x) label → numbers ≡ enum_numbers (Some (Enum rows)) → has_number x numbers ≡ repeats o row_values
repeats_enum o numbers rows row_values x label calibrator cell same = rw (calibrator, cell, same) refl
