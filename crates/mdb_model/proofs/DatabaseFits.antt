-- The items of a mission database fit the widths of their octets, by its rules and limits.
use Rattle.std.proofs.Common.{◌≡◌, ◌∙◌, ◌+◌, ◌<◌, ◌≤◌, ◌^◌, ℕ, zero, suc, ℤ, pos, negsuc, List, [], ◌∷◌, ◌++◌, length, map, take, Option, Some, None, Bool, true, false, cond, refl, ap, sym, arith, length-append, subst}
use Rattle.std.specs.Prelude.{◌&&◌, nat_lt, slice_get, option_map, flat_map, fold, is_some, sum_by, unsigned_abs}
use Rattle.std.specs.Int.{w64, w128}
use Rattle.std.specs.Int.RustNames.{FitsSigned}
use Rattle.std.specs.List.{AllByRecursion}
use Rattle.std.proofs.lemmas.Bool.{ltb-true, leb-true}
use Rattle.std.proofs.lemmas.Int.{ints}
use Rattle.std.proofs.lemmas.List.Sums.{sum_by-cons}
use Rattle.std.proofs.lemmas.Option.{slice_get-map, slice_get_within}
use Rattle.text_forms.specs.Names.{is_name}
use Rattle.mdb_items.specs.declared.calibration.Calibration.{Calibration}
use Rattle.mdb_items.specs.declared.calibration.EnumRow.{EnumRow}
use Rattle.mdb_items.specs.declared.calibration.PointsRow.{PointsRow}
use Rattle.mdb_items.specs.declared.calibration.PolyRow.{PolyRow}
use Rattle.mdb_items.specs.declared.calibration.Calibrator.{Calibrator}
use Rattle.mdb_items.specs.declared.calibration.Calibrator.TheVariants.{Poly, Points, Enum}
use Rattle.mdb_items.specs.declared.parameter.Coding.{Coding}
use Rattle.mdb_items.specs.declared.parameter.Parameter.{Parameter}
use Rattle.mdb_items.specs.declared.rows.RowValues.{RowValues}
use Rattle.mdb_items.specs.declared.rows.RowValues.TheVariants.{Unread, Coefficient, Point, Label}
use Rattle.mdb_items.specs.declared.rows.ParameterRow.{ParameterRow}
use Rattle.mdb_items.specs.CalibrationRows.{CalibrationRow, calibration_checks, calibration_fault, calibration_fault_at, calibrations_of, row_values_of, continued, empty_calibrator, has_x, has_y, rows_of_calibration, with_calibration_row, with_new_row, calibrator_with_row}
use Rattle.mdb_items.specs.Checks.{first_at, first_broken}
use Rattle.mdb_items.specs.Lists.{at_last}
use Rattle.mdb_items.specs.Numbers.{is_in_range}
use Rattle.mdb_items.specs.ParameterRows.{fits_coding, is_reference, parameter_checks, parameter_fault, parameter_fault_at, parameters_of, reference_to, row_of_parameter}
use Rattle.mdb_items.specs.Database.{row_count, calibrator_len}
use Rattle.mdb_model.specs.Rechecking.{HasRows}
use Rattle.mdb_octets.specs.Spelling.{FitsCalibration, FitsEnum, FitsParameter, FitsPoints, FitsPoly, FitsCalibrator, link}
use Rattle.mdb_items.specs.Texts.{Text, is_label}
use Rattle.mdb_items.proofs.Ends.{at_last-push}
use Rattle.mdb_rules.proofs.Passing.{all_pass, each_none, is_true}

-- ---- lists

pub all_at : {X : Type 0} (P : X → Type 0) (xs : List X) → ((i : ℕ) (x : X) → slice_get xs i ≡ Some x → P x) → AllByRecursion P xs
all_at P [] h = tt
all_at P (x ∷ xs) h = (h zero x refl, all_at P xs (λ i y e. h (suc i) y e))

pub item_of : {X : Type 0} (P : X → Type 0) (xs : List X) (n : ℕ) (x : X) → AllByRecursion P xs → slice_get xs n ≡ Some x → P x
item_of P [] n x all is = cc
item_of P (y ∷ xs) zero x all is = let same : y ≡ x = cc in subst P same all.0
item_of P (y ∷ xs) (suc n) x all is = item_of P xs n x all.1 is

pub all_split : {X : Type 0} (P : X → Type 0) (xs ys : List X) → AllByRecursion P (xs ++ ys) → AllByRecursion P xs × AllByRecursion P ys
all_split P [] ys h = (tt, h)
all_split P (x ∷ xs) ys h = let r = all_split P xs ys h.1 in ((h.0, r.0), r.1)

pub all_join : {X : Type 0} (P : X → Type 0) (xs ys : List X) → AllByRecursion P xs → AllByRecursion P ys → AllByRecursion P (xs ++ ys)
all_join P [] ys a b = b
all_join P (x ∷ xs) ys a b = (a.0, all_join P xs ys a.1 b)

all_below : {X : Type 0} (f : X → ℕ) (n : ℕ) (xs : List X) → sum_by f xs ≤ n → AllByRecursion (λ x. f x ≤ n) xs
all_below f n [] le = tt
all_below f n (x ∷ xs) le = let split = sum_by-cons f x xs in (omega arith, all_below f n xs (omega arith))

both_true : (a b : Bool) → (a && b) ≡ true → (a ≡ true) × (b ≡ true)
both_true true b e = (refl, e)
both_true false b e = cc

pub name_short : (t : Text) → is_name t ≡ true → length t < 2 ^ 8
name_short t h = grind arith

label_short : (t : Text) → is_label t ≡ true → length t < 2 ^ 8
label_short t h = grind arith

-- ---- parameters

bits_small : (coding : Coding) (n : ℕ) → fits_coding (Some coding) (Some n) ≡ true → n < 2 ^ 8
bits_small coding n h = grind arith

pub link_small : (count : ℕ) (o : Option ℕ) → count ≤ 4096 → is_reference count (reference_to o) ≡ true → link o < 2 ^ 16
link_small count None le h = omega arith
link_small count (Some n) le h = let lt = ltb-true n count h in omega arith

sound_parameter : (calibrations : List Calibration) (above : List Parameter) (o : Option ParameterRow) (row : ParameterRow) → o ≡ Some row → parameter_fault calibrations above o ≡ None → first_broken (parameter_checks calibrations above row) ≡ None
sound_parameter calibrations above o row is sound = rw is at sound

parameter_fits : (calibrations : List Calibration) (above : List Parameter) (p : Parameter) → length calibrations ≤ 4096 → first_broken (parameter_checks calibrations above (row_of_parameter p)) ≡ None → FitsParameter p
parameter_fits calibrations above p few sound =
    let q = all_pass (parameter_checks calibrations above (row_of_parameter p)) sound in
    record {
      name = name_short p.name (is_true (is_name p.name) q.1.0);
      bits = bits_small p.coding p.bits (is_true (fits_coding (Some p.coding) (Some p.bits)) q.1.1.1.1.0);
      calibration = link_small (length calibrations) p.calibration few (is_true (is_reference (length calibrations) (reference_to p.calibration)) q.1.1.1.1.1.0);
    }

pub parameters_fit : (calibrations : List Calibration) (ps : List Parameter) → length calibrations ≤ 4096 → first_at (parameter_fault_at calibrations (map row_of_parameter ps)) (length (map row_of_parameter ps)) ≡ None → AllByRecursion FitsParameter ps
unfolding parameter_fault_at
parameters_fit calibrations ps few none = all_at FitsParameter ps (λ i p at.
    let rows = map row_of_parameter ps in
    let there : slice_get rows i ≡ Some (row_of_parameter p) = slice_get-map row_of_parameter ps i ∙ ap (option_map row_of_parameter) at in
    let sound = each_none (parameter_fault_at calibrations rows) (length rows) none i (slice_get_within rows i (row_of_parameter p) there) in
    parameter_fits calibrations (parameters_of (take i rows)) p few (sound_parameter calibrations (parameters_of (take i rows)) (slice_get rows i) (row_of_parameter p) there sound))

-- ---- calibrations

record RowFits (r : CalibrationRow) : Type 0 where
  name : is_name r.name ≡ true
  x : has_x r.row_values ≡ true
  y : has_y r.row_values ≡ true

sound_calibration : (above : List Calibration) (o next : Option CalibrationRow) (row : CalibrationRow) → o ≡ Some row → calibration_fault above o next ≡ None → first_broken (calibration_checks above row (option_map (λ r. r.name) next)) ≡ None
sound_calibration above o next row is sound = rw is at sound

rows_fit : (rows : List CalibrationRow) → first_at (calibration_fault_at rows) (length rows) ≡ None → AllByRecursion RowFits rows
unfolding calibration_fault_at
rows_fit rows none = all_at RowFits rows (λ i r at.
    let sound = sound_calibration (calibrations_of (take i rows)) (slice_get rows i) (slice_get rows (i + 1)) r at (each_none (calibration_fault_at rows) (length rows) none i (slice_get_within rows i r at)) in
    let q = all_pass (calibration_checks (calibrations_of (take i rows)) r (option_map (λ r. r.name) (slice_get rows (i + 1)))) sound in
    record { name = is_true (is_name r.name) q.1.0; x = is_true (has_x r.row_values) q.1.1.1.1.1.0; y = is_true (has_y r.row_values) q.1.1.1.1.1.1.1.0 })

decimal_fits : (m : ℤ) → nat_lt (unsigned_abs m) 1000000000000000000 ≡ true → FitsSigned w64 m
decimal_fits (pos n) h = let lt = ltb-true n 1000000000000000000 h in record { sfits = omega (arith, ints) }
decimal_fits (negsuc n) h = let lt = ltb-true (suc n) 1000000000000000000 h in record { sfits = omega (arith, ints) }

pub range_fits : (x : ℤ) → is_in_range x ≡ true → FitsSigned w128 x
range_fits x h = record { sfits = grind (arith, ints) }

abbrev row_with : Text → RowValues → CalibrationRow
row_with name row_values = record { fields = 4; name = name; row_values = row_values }

poly_fits : (name : Text) (rows : List PolyRow) → AllByRecursion RowFits (map (row_with name) (row_values_of (Poly rows))) → AllByRecursion FitsPoly rows
poly_fits name [] h = tt
poly_fits name (r ∷ rows) h =
    let e = leb-true r.exponent 3 h.0.x in
    (record { exponent = omega arith; millionths = decimal_fits r.millionths h.0.y }, poly_fits name rows h.1)

points_fits : (name : Text) (rows : List PointsRow) → AllByRecursion RowFits (map (row_with name) (row_values_of (Points rows))) → AllByRecursion FitsPoints rows
points_fits name [] h = tt
points_fits name (r ∷ rows) h = (record { x = range_fits r.x h.0.x; millionths = decimal_fits r.millionths h.0.y }, points_fits name rows h.1)

enum_fits : (name : Text) (rows : List EnumRow) → AllByRecursion RowFits (map (row_with name) (row_values_of (Enum rows))) → AllByRecursion FitsEnum rows
enum_fits name [] h = tt
enum_fits name (r ∷ rows) h = (record { x = range_fits r.x h.0.x; label = label_short r.label h.0.y }, enum_fits name rows h.1)

calibrator_fits : (name : Text) (t : Calibrator) → calibrator_len t ≤ 65536 → AllByRecursion RowFits (map (row_with name) (row_values_of t)) → FitsCalibrator t
calibrator_fits name (Poly rows) le h = (omega arith, poly_fits name rows h)
calibrator_fits name (Points rows) le h = (omega arith, points_fits name rows h)
calibrator_fits name (Enum rows) le h = (omega arith, enum_fits name rows h)

has_name : (name : Text) (t : Calibrator) → 0 < calibrator_len t → AllByRecursion RowFits (map (row_with name) (row_values_of t)) → is_name name ≡ true
has_name name (Poly []) lt h = absurd (omega arith)
has_name name (Poly (r ∷ rows)) lt h = h.0.name
has_name name (Points []) lt h = absurd (omega arith)
has_name name (Points (r ∷ rows)) lt h = h.0.name
has_name name (Enum []) lt h = absurd (omega arith)
has_name name (Enum (r ∷ rows)) lt h = h.0.name

each_fits : (cs : List Calibration) → AllByRecursion HasRows cs → AllByRecursion (λ c. row_count c ≤ 65536) cs → AllByRecursion RowFits (flat_map rows_of_calibration cs) → AllByRecursion FitsCalibration cs
each_fits [] has few h = tt
each_fits (c ∷ cs) has few h =
    let parts = all_split RowFits (rows_of_calibration c) (flat_map rows_of_calibration cs) h in
    (record { name = name_short c.name (has_name c.name c.calibrator has.0 parts.0); calibrator = calibrator_fits c.name c.calibrator few.0 parts.0 }, each_fits cs has.1 few.1 parts.1)

pub calibrations_fit : (cs : List Calibration) → AllByRecursion HasRows cs → sum_by row_count cs ≤ 65536 → first_at (calibration_fault_at (flat_map rows_of_calibration cs)) (length (flat_map rows_of_calibration cs)) ≡ None → AllByRecursion FitsCalibration cs
calibrations_fit cs has few none = each_fits cs has (all_below row_count 65536 cs few) (rows_fit (flat_map rows_of_calibration cs) none)

-- ---- no calibration is without rows

grows : (t : Calibrator) (x : RowValues) → calibrator_len t ≤ calibrator_len (calibrator_with_row t x)
grows (Poly rows) Unread = omega arith
grows (Poly rows) (Coefficient None m) = omega arith
grows (Poly rows) (Coefficient (Some e) None) = omega arith
grows (Poly rows) (Coefficient (Some e) (Some m)) = omega (arith, length-append rows (record { exponent = e; millionths = m } ∷ []))
grows (Poly rows) (Point n m) = omega arith
grows (Poly rows) (Label n l) = omega arith
grows (Points rows) Unread = omega arith
grows (Points rows) (Coefficient e m) = omega arith
grows (Points rows) (Point None m) = omega arith
grows (Points rows) (Point (Some n) None) = omega arith
grows (Points rows) (Point (Some n) (Some m)) = omega (arith, length-append rows (record { x = n; millionths = m } ∷ []))
grows (Points rows) (Label n l) = omega arith
grows (Enum rows) Unread = omega arith
grows (Enum rows) (Coefficient e m) = omega arith
grows (Enum rows) (Point n m) = omega arith
grows (Enum rows) (Label None l) = omega arith
grows (Enum rows) (Label (Some n) l) = omega (arith, length-append rows (record { x = n; label = l } ∷ []))

first_row : (x : RowValues) → has_x x ≡ true → has_y x ≡ true → 0 < calibrator_len (calibrator_with_row (empty_calibrator x) x)
first_row Unread h k = cc
first_row (Coefficient None m) h k = cc
first_row (Coefficient (Some e) None) h k = cc
first_row (Coefficient (Some e) (Some m)) h k = omega arith
first_row (Point None m) h k = cc
first_row (Point (Some n) None) h k = cc
first_row (Point (Some n) (Some m)) h k = omega arith
first_row (Label None l) h k = cc
first_row (Label (Some n) l) h k = omega arith

last_has : (f : Calibration → Calibration) (cs : List Calibration) → ((c : Calibration) → HasRows c → HasRows (f c)) → AllByRecursion HasRows cs → AllByRecursion HasRows (at_last f cs)
last_has f [] h has = tt
last_has f (c ∷ []) h has = (h c has.0, tt)
last_has f (c ∷ d ∷ cs) h has = (has.0, last_has f (d ∷ cs) h has.1)

taken_has : (above : List Calibration) (name : Text) (x : RowValues) (b : Bool) → has_x x ≡ true → has_y x ≡ true → AllByRecursion HasRows above
    → AllByRecursion HasRows (at_last (with_new_row x) (cond b above (above ++ record { name = name; calibrator = empty_calibrator x } ∷ [])))
taken_has above name x true h k has = last_has (with_new_row x) above (λ c some. let more = grows c.calibrator x in omega arith) has
taken_has above name x false h k has =
    let c : Calibration = record { name = name; calibrator = empty_calibrator x } in
    let some : HasRows (with_new_row x c) = first_row x h k in
    subst (λ (cs : List Calibration). AllByRecursion HasRows cs) (sym (at_last-push (with_new_row x) above c)) (all_join HasRows above (with_new_row x c ∷ []) has (some, tt))

fold_has : (rows : List CalibrationRow) (above : List Calibration) → AllByRecursion RowFits rows → AllByRecursion HasRows above → AllByRecursion HasRows (fold with_calibration_row above rows)
fold_has [] above fits has = has
fold_has (r ∷ rows) above fits has = fold_has rows (with_calibration_row above r) fits.1 (taken_has above r.name r.row_values (is_some (continued above r.name)) fits.0.x fits.0.y has)

pub calibrations_have_rows : (rows : List CalibrationRow) → first_at (calibration_fault_at rows) (length rows) ≡ None → AllByRecursion HasRows (calibrations_of rows)
calibrations_have_rows rows none = fold_has rows [] (rows_fit rows none) tt
