-- Rows of parameters that break no rule are the rows of the parameters that they spell.
use Rattle.std.proofs.Common.{◌≡◌, ℕ, zero, suc, List, [], ◌∷◌, length, map, take, Option, Some, None, true, refl, ap, sym}
use Rattle.std.specs.Prelude.{slice_get}
use Rattle.std.proofs.lemmas.Option.{slice_get_within}
use Rattle.mdb_items.specs.declared.calibration.Calibration.{Calibration}
use Rattle.mdb_items.specs.declared.parameter.Coding.{Coding}
use Rattle.mdb_items.specs.declared.parameter.Parameter.{Parameter}
use Rattle.mdb_items.specs.declared.rows.ParameterRow.{ParameterRow}
use Rattle.mdb_items.specs.declared.rows.Reference.{Reference}
use Rattle.mdb_items.specs.declared.rows.Reference.TheVariants.{Nothing, Unknown, Known}
use Rattle.mdb_items.specs.Checks.{first_at, first_broken}
use Rattle.mdb_items.specs.ParameterRows.{fits_coding, is_reference, parameter_checks, parameter_fault, parameter_fault_at, parameter_of, parameters_of, row_of_parameter}
use Rattle.mdb_items.specs.Texts.{Text}
use Rattle.mdb_rules.proofs.Passing.{all_pass, each_none, is_same, is_true}

-- what is undone at each item is undone
map_back : {X Y : Type 0} (f : X → Y) (g : Y → X) (xs : List X) → ((i : ℕ) (x : X) → slice_get xs i ≡ Some x → g (f x) ≡ x) → map g (map f xs) ≡ xs
map_back f g [] h = refl
map_back f g (x ∷ xs) h =
    let first : g (f x) ≡ x = h zero x refl in
    let rest : map g (map f xs) ≡ xs = map_back f g xs (λ i y e. h (suc i) y e) in
    cc

abbrev row_from : ℕ → Text → Option Coding → Option ℕ → Reference → ParameterRow
row_from fields name coding bits calibration = record { fields = fields; name = name; coding = coding; bits = bits; calibration = calibration }

parts_back : (fields : ℕ) (name : Text) (coding : Option Coding) (bits : Option ℕ) (calibration : Reference) (count : ℕ) → fields ≡ 4 → fits_coding coding bits ≡ true → is_reference count calibration ≡ true
    → row_of_parameter (parameter_of (row_from fields name coding bits calibration)) ≡ row_from fields name coding bits calibration
parts_back fields name None bits calibration count four fits known = cc
parts_back fields name (Some coding) None calibration count four fits known = cc
parts_back fields name (Some coding) (Some n) Nothing count four fits known = ap (λ (k : ℕ). row_from k name (Some coding) (Some n) Nothing) (sym four)
parts_back fields name (Some coding) (Some n) Unknown count four fits known = cc
parts_back fields name (Some coding) (Some n) (Known k) count four fits known = ap (λ (m : ℕ). row_from m name (Some coding) (Some n) (Known k)) (sym four)

-- a row that breaks no rule is the row of its parameter
pub row_back : (calibrations : List Calibration) (above : List Parameter) (row : ParameterRow) → first_broken (parameter_checks calibrations above row) ≡ None → row_of_parameter (parameter_of row) ≡ row
row_back calibrations above row sound =
    let p = all_pass (parameter_checks calibrations above row) sound in
    parts_back row.fields row.name row.coding row.bits row.calibration (length calibrations) (is_same row.fields 4 p.0) (is_true (fits_coding row.coding row.bits) p.1.1.1.1.0) (is_true (is_reference (length calibrations) row.calibration) p.1.1.1.1.1.0)

sound_row : (calibrations : List Calibration) (above : List Parameter) (o : Option ParameterRow) (row : ParameterRow) → o ≡ Some row → parameter_fault calibrations above o ≡ None → first_broken (parameter_checks calibrations above row) ≡ None
sound_row calibrations above o row is sound = rw is at sound

-- rows that break no rule are those of the parameters that they spell
pub parameters_respelled : (calibrations : List Calibration) (rows : List ParameterRow) → first_at (parameter_fault_at calibrations rows) (length rows) ≡ None → map row_of_parameter (parameters_of rows) ≡ rows
unfolding parameter_fault_at
parameters_respelled calibrations rows sound =
    let each = each_none (parameter_fault_at calibrations rows) (length rows) sound in
    map_back parameter_of row_of_parameter rows (λ i row is. row_back calibrations (parameters_of (take i rows)) row (sound_row calibrations (parameters_of (take i rows)) (slice_get rows i) row is (each i (slice_get_within rows i row is))))
