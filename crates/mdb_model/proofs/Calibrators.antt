-- The calibrators that rows of calibrations spell.
use Rattle.std.proofs.Common.{◌≡◌, ◌∙◌, ◌<◌, ◌≤◌, ℕ, zero, suc, List, [], ◌∷◌, ◌++◌, length, map, Option, Some, None, Bool, true, false, refl, ap, sym, arith, inl, inr, subst}
use Rattle.std.specs.Prelude.{◌&&◌, ◌-◌, not, slice_get, fold, if◌then◌else◌, is_none, is_some, flat_map, sum_by}
use Rattle.std.specs.List.{AllByRecursion, IsDistinct}
use Rattle.std.specs.Str.{bytes_eq}
use Rattle.std.proofs.lemmas.Bool.{cases_lt, leb-true}
use Rattle.std.proofs.lemmas.Cmp.{int_eq_equiv, nat_eq_equiv}
use Rattle.std.proofs.lemmas.List.{map-append}
use Rattle.std.proofs.lemmas.List.Sums.{sum_by-cons}
use Rattle.std.proofs.lemmas.Option.{same_Some, slice_get_within}
use Rattle.text_forms.specs.Names.{is_name}
use Rattle.mdb_items.specs.declared.calibration.Calibration.{Calibration}
use Rattle.mdb_items.specs.declared.calibration.EnumRow.{EnumRow}
use Rattle.mdb_items.specs.declared.calibration.PointsRow.{PointsRow}
use Rattle.mdb_items.specs.declared.calibration.PolyRow.{PolyRow}
use Rattle.mdb_items.specs.declared.calibration.Calibrator.{Calibrator}
use Rattle.mdb_items.specs.declared.calibration.Calibrator.TheVariants.{Poly, Points, Enum}
use Rattle.mdb_items.specs.declared.rows.RowValues.{RowValues}
use Rattle.mdb_items.specs.declared.rows.RowValues.TheVariants.{Unread, Coefficient, Point, Label}
use Rattle.mdb_items.specs.CalibrationRows.{CalibrationRow, calibration_checks, calibrations_of, continued, empty_calibrator, has_x, has_y, is_named, is_other_kind, is_point, is_unread, repeats, rows_of_calibration, calibrator_named, with_calibration_row, with_name, with_new_row, calibrator_with_row}
use Rattle.mdb_items.specs.Checks.{first_broken}
use Rattle.mdb_items.specs.Database.{Database, IsDatabase, row_count, calibrator_len}
use Rattle.mdb_items.specs.Lists.{at_last, last_of}
use Rattle.mdb_model.specs.Rechecking.{are_sound, calibration_fault_before, calibrations_sound, first_name}
use Rattle.mdb_items.specs.Structure.{AreDistinctExponents, AreDistinctNames, AreDistinctNumbers, IsCalibration, IsLabelled, IsName, IsPoint, ArePointsRising, IsCalibrator, IsTerm}
use Rattle.mdb_items.specs.Texts.{Text, place_of}
use Rattle.mdb_rules.proofs.CalibrationSpelling.{last_named, own_kind}
use Rattle.mdb_model.proofs.ContainersFit.{both_true, none_is}
use Rattle.mdb_model.proofs.Counts.{counts}
use Rattle.mdb_model.proofs.DatabaseFits.{all_join, all_split, item_of}
use Rattle.mdb_model.proofs.DatabaseOctets.{calibrations_are_sound, parts_of}
use Rattle.mdb_model.proofs.Distinct.{new_name, rises_more, text_equiv, with_new, with_other}
use Rattle.mdb_items.proofs.Ends.{at_last-push, last_of-push, length-push, slice_get-end, slice_get-left, snoc}
use Rattle.mdb_rules.proofs.Passing.{all_pass, is_true}

-- ---- one more row of a calibrator

-- a calibrator whose points may still want the second
abbrev IsSoFar : Calibrator → Type 0
IsSoFar (Poly rows) = AllByRecursion IsTerm rows × AreDistinctExponents rows
IsSoFar (Points points) = AllByRecursion IsPoint points × ArePointsRising points
IsSoFar (Enum rows) = AllByRecursion IsLabelled rows × AreDistinctNumbers rows

-- points are two
abbrev IsLong : Calibrator → Type 0
IsLong (Poly rows) = Unit {0}
IsLong (Points points) = 2 ≤ length points
IsLong (Enum rows) = Unit {0}

whole : (t : Calibrator) → 0 < calibrator_len t → IsSoFar t → IsLong t → IsCalibrator t
whole (Poly rows) some is long = record { some = some; each = is.0; distinct = is.1 }
whole (Points points) some is long = record { pair = long; each = is.0; rising = is.1 }
whole (Enum rows) some is long = record { some = some; each = is.0; distinct = is.1 }

row_taken : (t : Calibrator) (row_values : RowValues) → is_other_kind (Some t) row_values ≡ false → has_x row_values ≡ true → has_y row_values ≡ true → repeats (Some t) row_values ≡ false → IsSoFar t → IsSoFar (calibrator_with_row t row_values)
row_taken (Poly rows) Unread k x y r is = cc
row_taken (Poly rows) (Coefficient None m) k x y r is = cc
row_taken (Poly rows) (Coefficient (Some e) None) k x y r is = cc
row_taken (Poly rows) (Coefficient (Some e) (Some m)) k x y r is =
    let row : PolyRow = record { exponent = e; millionths = m } in
    (all_join IsTerm rows (row ∷ []) is.0 ((leb-true e 3 x, y), tt), with_other nat_eq_equiv (λ (r : PolyRow). r.exponent) rows row is.1 r)
row_taken (Poly rows) (Point n m) k x y r is = cc
row_taken (Poly rows) (Label n l) k x y r is = cc
row_taken (Points rows) Unread k x y r is = cc
row_taken (Points rows) (Coefficient e m) k x y r is = cc
row_taken (Points rows) (Point None m) k x y r is = cc
row_taken (Points rows) (Point (Some n) None) k x y r is = cc
row_taken (Points rows) (Point (Some n) (Some m)) k x y r is =
    let point : PointsRow = record { x = n; millionths = m } in
    (all_join IsPoint rows (point ∷ []) is.0 ((x, y), tt), rises_more rows point is.1 r)
row_taken (Points rows) (Label n l) k x y r is = cc
row_taken (Enum rows) Unread k x y r is = cc
row_taken (Enum rows) (Coefficient e m) k x y r is = cc
row_taken (Enum rows) (Point n m) k x y r is = cc
row_taken (Enum rows) (Label None l) k x y r is = cc
row_taken (Enum rows) (Label (Some n) l) k x y r is =
    let row : EnumRow = record { x = n; label = l } in
    (all_join IsLabelled rows (row ∷ []) is.0 ((x, y), tt), with_new int_eq_equiv (λ (r : EnumRow). r.x) rows row is.1 r)

-- a calibrator has one more row
row_more : (t : Calibrator) (row_values : RowValues) → is_other_kind (Some t) row_values ≡ false → has_x row_values ≡ true → has_y row_values ≡ true → calibrator_len (calibrator_with_row t row_values) ≡ suc (calibrator_len t)
row_more (Poly rows) Unread k x y = cc
row_more (Poly rows) (Coefficient None m) k x y = cc
row_more (Poly rows) (Coefficient (Some e) None) k x y = cc
row_more (Poly rows) (Coefficient (Some e) (Some m)) k x y = length-push rows _
row_more (Poly rows) (Point n m) k x y = cc
row_more (Poly rows) (Label n l) k x y = cc
row_more (Points rows) Unread k x y = cc
row_more (Points rows) (Coefficient e m) k x y = cc
row_more (Points rows) (Point None m) k x y = cc
row_more (Points rows) (Point (Some n) None) k x y = cc
row_more (Points rows) (Point (Some n) (Some m)) k x y = length-push rows _
row_more (Points rows) (Label n l) k x y = cc
row_more (Enum rows) Unread k x y = cc
row_more (Enum rows) (Coefficient e m) k x y = cc
row_more (Enum rows) (Point n m) k x y = cc
row_more (Enum rows) (Label None l) k x y = cc
row_more (Enum rows) (Label (Some n) l) k x y = length-push rows _

long_enough : (t : Calibrator) → 2 ≤ calibrator_len t → IsLong t
long_enough (Poly rows) long = tt
long_enough (Points rows) long = long
long_enough (Enum rows) long = tt

empty_so_far : (row_values : RowValues) → IsSoFar (empty_calibrator row_values)
unfolding IsDistinct
empty_so_far Unread = (tt, tt)
empty_so_far (Coefficient e m) = (tt, tt)
empty_so_far (Point n m) = (tt, tt)
empty_so_far (Label n l) = (tt, tt)

none_repeats : (row_values : RowValues) → repeats (Some (empty_calibrator row_values)) row_values ≡ false
none_repeats Unread = refl
none_repeats (Coefficient None m) = refl
none_repeats (Coefficient (Some e) m) = refl
none_repeats (Point None m) = refl
none_repeats (Point (Some n) m) = refl
none_repeats (Label None l) = refl
none_repeats (Label (Some n) l) = refl

-- what isn't a point begins no points
no_points : (row_values : RowValues) → is_point row_values ≡ false → IsLong (calibrator_with_row (empty_calibrator row_values) row_values)
no_points Unread p = tt
no_points (Coefficient None m) p = tt
no_points (Coefficient (Some e) None) p = tt
no_points (Coefficient (Some e) (Some m)) p = tt
no_points (Point n m) p = cc
no_points (Label None l) p = tt
no_points (Label (Some n) l) p = tt

-- ---- one more row of a sheet

record IsBegun (c : Calibration) : Type 0 where
  named : IsName c.name
  some : 0 < calibrator_len c.calibrator
  calibrator : IsSoFar c.calibrator

-- the last calibration may want its second point, where the next row has its name
record AreBegun (above : List Calibration) (next : Option Text) : Type 0 where
  names : AreDistinctNames (map (λ c. c.name) above)
  each : AllByRecursion IsBegun above
  long : (i : ℕ) (c : Calibration) → slice_get above i ≡ Some c → (suc i ≡ length above → is_named c.name next ≡ false) → IsLong c.calibrator

record RowIsSound (above : List Calibration) (row : CalibrationRow) (next : Option Text) : Type 0 where
  named : IsName row.name
  fresh : (not (is_some (continued above row.name)) && is_some (place_of row.name (map (λ c. c.name) above))) ≡ false
  read : is_unread row.row_values ≡ false
  kind : is_other_kind (continued above row.name) row.row_values ≡ false
  x : has_x row.row_values ≡ true
  new : repeats (continued above row.name) row.row_values ≡ false
  y : has_y row.row_values ≡ true
  pair : (is_point row.row_values && not (is_some (continued above row.name)) && not (is_named row.name next)) ≡ false

row_is_sound : (above : List Calibration) (row : CalibrationRow) (next : Option Text) → first_broken (calibration_checks above row next) ≡ None → RowIsSound above row next
row_is_sound above row next none =
    let q = all_pass (calibration_checks above row next) none in
    record {
      named = is_true (is_name row.name) q.1.0;
      fresh = q.1.1.0;
      read = q.1.1.1.0;
      kind = q.1.1.1.1.0;
      x = is_true (has_x row.row_values) q.1.1.1.1.1.0;
      new = q.1.1.1.1.1.1.0;
      y = is_true (has_y row.row_values) q.1.1.1.1.1.1.1.0;
      pair = q.1.1.1.1.1.1.1.1.0;
    }

-- a point that begins a calibration, and isn't followed by another
alone : (o : Option Calibrator) (p b : Bool) → (p && not (is_some o) && not b) ≡ false → o ≡ None → b ≡ false → p ≡ false
alone None true true e none other = cc
alone None true false e none other = cc
alone None false b e none other = refl
alone (Some t) p b e none other = cc

unplaced : (o : Option Calibrator) (b : Bool) → (not (is_some o) && b) ≡ false → o ≡ None → b ≡ false
unplaced None b e none = e
unplaced (Some t) b e none = cc

no_calibrator : (b : Bool) (t : Calibrator) → (if b then Some t else None) ≡ None → b ≡ false
no_calibrator true t e = cc
no_calibrator false t e = refl

-- the name of the last calibration isn't that of the row
other_name : (above : List Calibration) (name : Text) (i : ℕ) (c : Calibration) → continued above name ≡ None → slice_get above i ≡ Some c → suc i ≡ length above → is_named c.name (Some name) ≡ false
other_name above name i c none at end =
    let place : length above - 1 ≡ i = omega (arith, end) in
    let last : last_of above ≡ Some c = ap (slice_get above) place ∙ at in
    text_equiv.symm name c.name ∙ no_calibrator (bytes_eq c.name name) c.calibrator (ap (calibrator_named name) (sym last) ∙ none)

-- an item is that at the end, or one before it
at_end : {X : Type 0} (front : List X) (last x : X) (i : ℕ) → slice_get (front ++ last ∷ []) i ≡ Some x → length front ≤ i → (i ≡ length front) × (last ≡ x)
at_end front last x i at past =
    let within = slice_get_within (front ++ last ∷ []) i x at in
    let same : i ≡ length front = omega (arith, within, length-push front last) in
    (same, same_Some last x (sym (slice_get-end front last []) ∙ ap (slice_get (front ++ last ∷ [])) (sym same) ∙ at))

begins : (above : List Calibration) (row : CalibrationRow) (next : Option Text) → continued above row.name ≡ None → RowIsSound above row next → AreBegun above (Some row.name) → AreBegun (with_calibration_row above row) next
begins above row next none s is =
    let c : Calibration = record { name = row.name; calibrator = empty_calibrator row.row_values } in
    let new = with_new_row row.row_values c in
    let begun : with_name above row.name row.row_values ≡ above ++ c ∷ [] = rw none refl in
    let grown : with_calibration_row above row ≡ above ++ new ∷ [] = ap (at_last (with_new_row row.row_values)) begun ∙ at_last-push (with_new_row row.row_values) above c in
    let kind = own_kind row.row_values s.read in
    let own : IsBegun new = record {
      named = s.named;
      some = omega (arith, row_more (empty_calibrator row.row_values) row.row_values kind s.x s.y);
      calibrator = row_taken (empty_calibrator row.row_values) row.row_values kind s.x s.y (none_repeats row.row_values) (empty_so_far row.row_values);
    } in
    let name : Calibration → Text = λ k. k.name in
    let fresh = new_name row.name (map name above) (unplaced (continued above row.name) (is_some (place_of row.name (map name above))) s.fresh none) in
    let short : is_named row.name next ≡ false → IsLong new.calibrator = λ other. no_points row.row_values (alone (continued above row.name) (is_point row.row_values) (is_named row.name next) s.pair none other) in
    subst (λ (cs : List Calibration). AreBegun cs next) (sym grown) (record {
      names = with_new text_equiv name above new is.names fresh;
      each = all_join IsBegun above (new ∷ []) is.each (own, tt);
      long = λ i x at last. elim (cases_lt i (length above)) [
        | inl less ↦ is.long i x (sym (slice_get-left above (new ∷ []) i less) ∙ at) (λ end. other_name above row.name i x none (sym (slice_get-left above (new ∷ []) i less) ∙ at) end)
        | inr more ↦
            let e = at_end above new x i at more in
            let here = last (omega (arith, e.0, length-push above new)) in
            subst (λ (k : Calibration). IsLong k.calibrator) e.1 (short (ap (λ (k : Calibration). is_named k.name next) e.1 ∙ here))
      ];
    })

continues : (front : List Calibration) (c : Calibration) (row : CalibrationRow) (next : Option Text) (t : Calibrator) → continued (front ++ c ∷ []) row.name ≡ Some t → RowIsSound (front ++ c ∷ []) row next → AreBegun (front ++ c ∷ []) (Some row.name)
    → AreBegun (with_calibration_row (front ++ c ∷ []) row) next
continues front c row next t continuing s is =
    let named = last_named c row.name t (ap (calibrator_named row.name) (sym (last_of-push front c)) ∙ continuing) in
    let calibrator : continued (front ++ c ∷ []) row.name ≡ Some c.calibrator = continuing ∙ ap (λ (u : Calibrator). Some u) (sym named.1) in
    let kind : is_other_kind (Some c.calibrator) row.row_values ≡ false = ap (λ (o : Option Calibrator). is_other_kind o row.row_values) (sym calibrator) ∙ s.kind in
    let other : repeats (Some c.calibrator) row.row_values ≡ false = ap (λ (o : Option Calibrator). repeats o row.row_values) (sym calibrator) ∙ s.new in
    let d = with_new_row row.row_values c in
    let begun : with_name (front ++ c ∷ []) row.name row.row_values ≡ front ++ c ∷ [] = rw continuing refl in
    let grown : with_calibration_row (front ++ c ∷ []) row ≡ front ++ d ∷ [] = ap (at_last (with_new_row row.row_values)) begun ∙ at_last-push (with_new_row row.row_values) front c in
    let parts = all_split IsBegun front (c ∷ []) is.each in
    let was : IsBegun c = parts.1.0 in
    let more = row_more c.calibrator row.row_values kind s.x s.y in
    let own : IsBegun d = record {
      named = was.named;
      some = omega (arith, more);
      calibrator = row_taken c.calibrator row.row_values kind s.x s.y other was.calibrator;
    } in
    let name : Calibration → Text = λ k. k.name in
    let same : map name (front ++ c ∷ []) ≡ map name (front ++ d ∷ []) = map-append name front (c ∷ []) ∙ sym (map-append name front (d ∷ [])) in
    subst (λ (cs : List Calibration). AreBegun cs next) (sym grown) (record {
      names = subst (IsDistinct bytes_eq) same is.names;
      each = all_join IsBegun front (d ∷ []) parts.0 (own, tt);
      long = λ i x at last. elim (cases_lt i (length front)) [
        | inl less ↦ is.long i x (slice_get-left front (c ∷ []) i less ∙ sym (slice_get-left front (d ∷ []) i less) ∙ at) (λ end. absurd (omega (arith, end, length-push front c)))
        | inr past ↦
            let e = at_end front d x i at past in
            subst (λ (k : Calibration). IsLong k.calibrator) e.1 (long_enough d.calibrator (omega (arith, more, was.some)))
      ];
    })

one_more : (above : List Calibration) (row : CalibrationRow) (next : Option Text) (o : Option Calibrator) → continued above row.name ≡ o → RowIsSound above row next → AreBegun above (Some row.name) → AreBegun (with_calibration_row above row) next
one_more above row next None e s is = begins above row next e s is
one_more [] row next (Some t) e s is = cc
one_more (a ∷ above) row next (Some t) e s is =
    let parts = snoc (a ∷ above) (omega arith) in
    let P : List Calibration → Type 0 = λ cs. continued cs row.name ≡ Some t → RowIsSound cs row next → AreBegun cs (Some row.name) → AreBegun (with_calibration_row cs row) next in
    subst P (sym parts.2) (λ e s is. continues parts.0 parts.1 row next t e s is) e s is

-- ---- all rows

all_rows : (rows : List CalibrationRow) (above : List Calibration) → calibrations_sound above rows ≡ true → AreBegun above (first_name rows) → AreBegun (fold with_calibration_row above rows) None
unfolding are_sound
all_rows [] above sound is = is
all_rows (row ∷ rows) above sound is =
    let p = both_true (is_none (calibration_fault_before above row rows)) (calibrations_sound (with_calibration_row above row) rows) sound in
    let s = row_is_sound above row (first_name rows) (none_is (calibration_fault_before above row rows) p.0) in
    all_rows rows (with_calibration_row above row) p.1 (one_more above row (first_name rows) (continued above row.name) refl s is)

-- a calibration's rows are some of all
count_in : (cs : List Calibration) (n : ℕ) (c : Calibration) → slice_get cs n ≡ Some c → row_count c ≤ sum_by row_count cs
count_in [] n c is = cc
count_in (d ∷ cs) zero c is = let same : d ≡ c = cc in omega (arith, sum_by-cons row_count d cs, ap row_count same)
count_in (d ∷ cs) (suc n) c is = omega (arith, sum_by-cons row_count d cs, count_in cs n c is)

finished : (above : List Calibration) (next : Option Text) → AreBegun above next → next ≡ None → sum_by row_count above ≤ 65536 → (n : ℕ) (c : Calibration) → slice_get above n ≡ Some c → IsCalibration c
finished above next is end few n c at =
    let begun = item_of IsBegun above n c is.each at in
    let other : is_named c.name next ≡ false = ap (is_named c.name) end in
    record {
      named = begun.named;
      rows = whole c.calibrator begun.some begun.calibrator (is.long n c at (λ last. other));
      few = omega (arith, count_in above n c at, few);
    }

none_begun : (next : Option Text) → AreBegun [] next
unfolding IsDistinct
none_begun next = record { names = tt; each = tt; long = λ i c at last. cc }

-- the calibrations of a database are each sound, and have distinct names
pub record AreCalibrations (cs : List Calibration) : Type 0 where
  pub names : AreDistinctNames (map (λ c. c.name) cs)
  pub each : (n : ℕ) (c : Calibration) → slice_get cs n ≡ Some c → IsCalibration c

pub calibrations_are : (d : Database) → IsDatabase d → AreCalibrations d.calibrations
calibrations_are d is =
    let p = parts_of d is in
    let rows = flat_map rows_of_calibration d.calibrations in
    let done = all_rows rows [] (calibrations_are_sound rows p.calibrations_none) (none_begun (first_name rows)) in
    let few = subst (λ (cs : List Calibration). sum_by row_count cs ≤ 65536) (sym p.calibrations) (counts d is.small).rows in
    subst AreCalibrations p.calibrations (record { names = done.names; each = finished (calibrations_of rows) None done refl few })
