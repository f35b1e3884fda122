-- Raw cells of a parameter, calibrated, are its cells.
use Rattle.std.proofs.Common.{◌≡◌, ◌∙◌, ℕ, List, [], ◌∷◌, map, Option, Some, None, Bool, true, false, cond, refl, sym, ap, subst}
use Rattle.std.specs.Prelude.{◌==◌, option_map}
use Rattle.std.specs.List.{AllByRecursion, cons_option, filter_map}
use Rattle.std.proofs.lemmas.Bool.{eqb-true}
use Rattle.arch_types.specs.declared.cell.Cell.{Cell}
use Rattle.mdb_items.specs.Database.{Database}
use Rattle.container_extract.specs.declared.values.RawValue.{RawValue}
use Rattle.container_extract.specs.Values.{IsRawValue, raw_among}
use Rattle.param_segments.specs.declared.raw_cell.RawCell.{RawCell}
use Rattle.param_segments.specs.Cells.{AreValuesOf, raw_cell, raw_cell_of, raw_value_of_cell, set_cell_at, set_cells, with_eng}
use Rattle.param_segments.specs.Rows.{SetRow}

-- what is found is of the parameter, and has what all values have
found_cases : (P : RawValue → Type 0) (q : ℕ) (v x : RawValue) (o : Option RawValue) (b : Bool) → (v.parameter == q) ≡ b → P v → cond b (Some v) o ≡ Some x → (o ≡ Some x → (x.parameter ≡ q) × P x) → (x.parameter ≡ q) × P x
found_cases P q v x o true e p is more = let same : v ≡ x = cc in (ap (λ (w : RawValue). w.parameter) (sym same) ∙ eqb-true v.parameter q e, subst P same p)
found_cases P q v x o false e p is more = more is

found : (P : RawValue → Type 0) (q : ℕ) (vs : List RawValue) (x : RawValue) → AllByRecursion P vs → raw_among q vs ≡ Some x → (x.parameter ≡ q) × P x
found P q [] x all is = absurd cc
found P q (v ∷ vs) x all is = found_cases P q v x (raw_among q vs) (v.parameter == q) refl all.0 is (found P q vs x all.1)

-- the same value, its parameter written anew
same_value : (q : ℕ) (v : RawValue) → v.parameter ≡ q → (let w : RawValue = record { parameter = q; raw = v.raw } in w ≡ v)
same_value q v is = ap (λ (p : ℕ). let w : RawValue = record { parameter = p; raw = v.raw } in w) (sym is)

one_cell : (db : Database) (q : ℕ) (row : SetRow) (rest : List RawCell) (more : List Cell) (o : Option RawValue) → raw_among q row.values ≡ o → AllByRecursion (IsRawValue db) row.values → map (with_eng db q) rest ≡ more →
    map (with_eng db q) (cons_option (option_map (raw_cell row.key) o) rest) ≡ cons_option (option_map (set_cell_at db row.key) o) more
one_cell db q row rest more None is all e = e
one_cell db q row rest more (Some v) is all e =
    let own = (found (IsRawValue db) q row.values v all is).0 in
    ap (λ (w : RawValue). set_cell_at db row.key w ∷ map (with_eng db q) rest) (same_value q v own) ∙ ap (λ (cs : List Cell). set_cell_at db row.key v ∷ cs) e

pub calibrated_are : (db : Database) (q : ℕ) (rows : List SetRow) → AreValuesOf db rows → map (with_eng db q) (filter_map (raw_cell_of q) rows) ≡ set_cells db q rows
calibrated_are db q [] all = refl
calibrated_are db q (row ∷ rows) all = one_cell db q row (filter_map (raw_cell_of q) rows) (set_cells db q rows) (raw_among q row.values) refl all.0 (calibrated_are db q rows all.1)

one_value : (db : Database) (q : ℕ) (row : SetRow) (rest : List RawCell) (o : Option RawValue) → raw_among q row.values ≡ o → AllByRecursion (IsRawValue db) row.values → AllByRecursion (λ c. IsRawValue db (raw_value_of_cell q c)) rest →
    AllByRecursion (λ c. IsRawValue db (raw_value_of_cell q c)) (cons_option (option_map (raw_cell row.key) o) rest)
one_value db q row rest None is all more = more
one_value db q row rest (Some v) is all more =
    let own = found (IsRawValue db) q row.values v all is in
    (subst (IsRawValue db) (sym (same_value q v own.0)) own.1, more)

pub values_are : (db : Database) (q : ℕ) (rows : List SetRow) → AreValuesOf db rows → AllByRecursion (λ c. IsRawValue db (raw_value_of_cell q c)) (filter_map (raw_cell_of q) rows)
values_are db q [] all = tt
values_are db q (row ∷ rows) all = one_value db q row (filter_map (raw_cell_of q) rows) (raw_among q row.values) refl all.0 (values_are db q rows all.1)
