-- The rows of a set that packets give, and their cells.
use Rattle.std.proofs.Common.{◌≡◌, ℕ, zero, suc, ℤ, ◌+◌, ◌-◌, ◌<◌, ◌≤◌, ◌^◌, List, [], ◌∷◌, ◌++◌, length, map, take, take_all, get_or, add-one, Option, Some, None, Bool, true, false, cond, refl, sym, ap, subst, ◌∙◌, arith, lt-ltb}
use Rattle.std.specs.Prelude.{nat_lt, option_map, unsigned_abs, if◌then◌else◌}
use Rattle.std.specs.Int.RustNames.{FitsSigned}
use Rattle.std.specs.List.{AllByRecursion, cons_option, filter_map}
use Rattle.std.specs.List.Sorted.{IsStrictlySortedBy}
use Rattle.std.specs.Int.{w128}
use Rattle.std.specs.declared.cmp.Ordering.TheVariants.{Less}
use Rattle.std.proofs.Math.Nat.{pow-le-pow_right}
use Rattle.std.proofs.Math.Seq.{take-suc}
use Rattle.std.proofs.lemmas.Int.{fits_signed_from_abs, ints}
use Rattle.arch_types.specs.declared.cell.Cell.{Cell}
use Rattle.arch_types.specs.declared.key.Key.{Key}
use Rattle.arch_types.specs.declared.row.Row.{Row}
use Rattle.intervals.specs.Interval.{interval_of}
use Rattle.arch_types.specs.Order.{key_cmp}
use Rattle.mdb_items.specs.declared.parameter.Coding.{Coding}
use Rattle.mdb_items.specs.declared.parameter.Coding.TheVariants.{Uint, Int, UintLe, IntLe}
use Rattle.mdb_items.specs.Database.{Database, IsDatabase}
use Rattle.mdb_items.proofs.Ends.{item_at}
use Rattle.mdb_model.proofs.Structure.{structured}
use Rattle.calibration.specs.Admitted.{IsInWidth, IsSigned, IsUnsigned}
use Rattle.container_extract.specs.declared.values.RawValue.{RawValue}
use Rattle.container_extract.specs.Extraction.{cell_at, cell_of, raw_extraction}
use Rattle.container_extract.specs.Laws.{AreRawValues, ValueIsCalibrated}
use Rattle.container_extract.specs.Values.{IsRawValue, calibrated_value, raw_among}
use Rattle.container_extract.proofs.Extracting.{raw_extraction_keeps_rules}
use Rattle.container_extract.proofs.Widths.{width_bounds}
use Rattle.segment_codec.specs.KeyColumn.{IsKey}
use Rattle.param_segments.specs.Cells.{AreValuesOf, set_cell, set_cell_at, set_cells}
use Rattle.param_segments.specs.Extracted.{IsSetOf, extracted_row, extracted_rows, has_values, kept_row}
use Rattle.param_segments.specs.Rows.{AreSetRows, IsSetRow, SetRow, set_row}

-- ---- a row

small : (n : ℕ) → n ≤ 2 ^ 64 → n < 2 ^ 127
small n le = omega arith

unsigned_fits : (bits : ℕ) (raw : ℤ) → bits ≤ 64 → IsUnsigned bits raw → FitsSigned w128 raw
unsigned_fits bits raw few is =
    let some : 0 < 2 = omega arith in
    let most : 2 ^ bits ≤ 2 ^ 64 = pow-le-pow_right {n = 2} some few in
    let within : unsigned_abs raw ≤ 2 ^ bits = omega (arith, ints) in
    fits_signed_from_abs w128 raw (small (unsigned_abs raw) (omega (arith, within, most)))

signed_fits : (bits : ℕ) (raw : ℤ) → bits ≤ 64 → IsSigned bits raw → FitsSigned w128 raw
signed_fits bits raw few is =
    let some : 0 < 2 = omega arith in
    let fewer : bits - 1 ≤ 64 = omega arith in
    let most : 2 ^ (bits - 1) ≤ 2 ^ 64 = pow-le-pow_right {n = 2} some fewer in
    let within : unsigned_abs raw ≤ 2 ^ (bits - 1) = omega (arith, ints) in
    fits_signed_from_abs w128 raw (small (unsigned_abs raw) (omega (arith, within, most)))

width_fits : (coding : Coding) (bits : ℕ) (raw : ℤ) → bits ≤ 64 → IsInWidth coding bits raw → FitsSigned w128 raw
width_fits Uint bits raw few is = unsigned_fits bits raw few is
width_fits Int bits raw few is = signed_fits bits raw few is
width_fits UintLe bits raw few is = unsigned_fits bits raw few is
width_fits IntLe bits raw few is = signed_fits bits raw few is

raw_fits : (db : Database) (v : RawValue) → IsDatabase db → IsRawValue db v → FitsSigned w128 v.raw
raw_fits db v is raw =
    let here = item_at db.parameters v.parameter raw.known in
    let own = (structured db is).parameters v.parameter here.0 here.1 in
    width_fits here.0.coding here.0.bits v.raw (width_bounds here.0.coding here.0.bits own.width).1 (raw.in_width here.0 here.1)

raws_fit_all : (db : Database) (vs : List RawValue) → IsDatabase db → AllByRecursion (IsRawValue db) vs → AllByRecursion (FitsSigned w128) (map (λ v. v.raw) vs)
raws_fit_all db [] is all = tt
raws_fit_all db (v ∷ vs) is all = (raw_fits db v is all.0, raws_fit_all db vs is all.1)

parameters_fit : (db : Database) (vs : List RawValue) → length db.parameters ≤ 4096 → AllByRecursion (IsRawValue db) vs → AllByRecursion (λ p. p < 2 ^ 16) (map (λ v. v.parameter) vs)
parameters_fit db [] few all = tt
parameters_fit db (v ∷ vs) few all = (let known = all.0.known in omega (arith, known, few), parameters_fit db vs few all.1)

-- raw values of a database make a row of a set, where there is one
pub values_make_row : (db : Database) (key : Key) (vs : List RawValue) → IsDatabase db → IsKey key → AreRawValues db vs → 1 ≤ length vs → IsSetRow (set_row key vs)
values_make_row db key vs is at are some = record {
  some = some;
  few = let few = are.few in omega (arith, few);
  distinct = are.distinct;
  parameters = parameters_fit db vs (structured db is).few_parameters are.each;
  key = at;
  raws = raws_fit_all db vs is are.each;
}

-- ---- rows one after the other

extracted_append : (db : Database) (xs ys : List Row) → extracted_rows db (xs ++ ys) ≡ extracted_rows db xs ++ extracted_rows db ys
extracted_append db [] ys = refl
extracted_append db (x ∷ xs) ys = ap (λ (rows : List SetRow). cond (has_values (extracted_row db x)) (extracted_row db x ∷ rows) rows) (extracted_append db xs ys) ∙ sym (kept_front (has_values (extracted_row db x)) (extracted_row db x) (extracted_rows db xs) (extracted_rows db ys))
  where
    kept_front : (b : Bool) (row : SetRow) (xs ys : List SetRow) → cond b (row ∷ xs) xs ++ ys ≡ cond b (row ∷ (xs ++ ys)) (xs ++ ys)
    kept_front true row xs ys = refl
    kept_front false row xs ys = refl

-- a row more
pub extracted_more : (db : Database) (rows : List Row) (i : ℕ) (row : Row) → i < length rows → row ≡ get_or rows i row → extracted_rows db (take (i + 1) rows) ≡ extracted_rows db (take i rows) ++ kept_row (extracted_row db row)
extracted_more db rows i row lt is =
    ap (extracted_rows db) (ap (λ (k : ℕ). take k rows) (add-one i) ∙ take-suc rows i row lt ∙ ap (λ (r : Row). take i rows ++ r ∷ []) (sym is))
    ∙ extracted_append db (take i rows) (row ∷ [])

-- ---- their keys rise

later_kept : (k : Key) (b : Bool) (row : SetRow) (rows : List SetRow) → key_cmp k row.key ≡ Less → AllByRecursion (λ y. key_cmp k y ≡ Less) (map (λ r. r.key) rows) → AllByRecursion (λ y. key_cmp k y ≡ Less) (map (λ r. r.key) (cond b (row ∷ rows) rows))
later_kept k true row rows less all = (less, all)
later_kept k false row rows less all = all

all_later : (db : Database) (k : Key) (rows : List Row) → AllByRecursion (λ y. key_cmp k y ≡ Less) (map (λ row. row.key) rows) → AllByRecursion (λ y. key_cmp k y ≡ Less) (map (λ row. row.key) (extracted_rows db rows))
all_later db k [] all = tt
all_later db k (row ∷ rows) all = later_kept k (has_values (extracted_row db row)) (extracted_row db row) (extracted_rows db rows) all.0 (all_later db k rows all.1)

rise_kept : (b : Bool) (row : SetRow) (rows : List SetRow) → AllByRecursion (λ y. key_cmp row.key y ≡ Less) (map (λ r. r.key) rows) → IsStrictlySortedBy key_cmp (map (λ r. r.key) rows) → IsStrictlySortedBy key_cmp (map (λ r. r.key) (cond b (row ∷ rows) rows))
unfolding IsStrictlySortedBy
rise_kept true row rows all up = (all, up)
rise_kept false row rows all up = up

pub extracted_rise : (db : Database) (rows : List Row) → IsStrictlySortedBy key_cmp (map (λ row. row.key) rows) → IsStrictlySortedBy key_cmp (map (λ row. row.key) (extracted_rows db rows))
unfolding IsStrictlySortedBy
extracted_rise db [] up = tt
extracted_rise db (row ∷ rows) up = rise_kept (has_values (extracted_row db row)) (extracted_row db row) (extracted_rows db rows) (all_later db row.key rows up.0) (extracted_rise db rows up.1)

take_later : (k : Key) (n : ℕ) (rows : List Row) → AllByRecursion (λ y. key_cmp k y ≡ Less) (map (λ row. row.key) rows) → AllByRecursion (λ y. key_cmp k y ≡ Less) (map (λ row. row.key) (take n rows))
take_later k zero rows all = tt
take_later k (suc n) [] all = tt
take_later k (suc n) (row ∷ rows) all = (all.0, take_later k n rows all.1)

pub take_rise : (n : ℕ) (rows : List Row) → IsStrictlySortedBy key_cmp (map (λ row. row.key) rows) → IsStrictlySortedBy key_cmp (map (λ row. row.key) (take n rows))
unfolding IsStrictlySortedBy
take_rise zero rows up = tt
take_rise (suc n) [] up = tt
take_rise (suc n) (row ∷ rows) up = (take_later row.key n rows up.0, take_rise n rows up.1)

join_rows : (xs ys : List SetRow) → AllByRecursion IsSetRow xs → AllByRecursion IsSetRow ys → AllByRecursion IsSetRow (xs ++ ys)
join_rows [] ys all more = more
join_rows (x ∷ xs) ys all more = (all.0, join_rows xs ys all.1 more)

kept_is : (row : SetRow) (b : Bool) → nat_lt 0 (length row.values) ≡ b → (1 ≤ length row.values → IsSetRow row) → AllByRecursion IsSetRow (if b then row ∷ [] else [])
kept_is row true e is = (is (some (length row.values) e), tt)
  where
    some : (n : ℕ) → nat_lt 0 n ≡ true → 1 ≤ n
    some zero h = absurd cc
    some (suc n) h = omega arith
kept_is row false e is = tt

-- the rows so far with the next one are rows of a set
pub rows_so_far : (db : Database) (rows : List Row) (i : ℕ) (row : Row) (old : List SetRow) → IsDatabase db → i < length rows → row ≡ get_or rows i row → IsKey row.key → AreRawValues db (raw_extraction db row.packet) →
    IsStrictlySortedBy key_cmp (map (λ row. row.key) rows) → old ≡ extracted_rows db (take i rows) → AllByRecursion IsSetRow old → AreSetRows (old ++ kept_row (extracted_row db row))
rows_so_far db rows i row old is lt at key values up so_far all =
    let next : extracted_rows db (take (i + 1) rows) ≡ old ++ kept_row (extracted_row db row) = extracted_more db rows i row lt at ∙ ap (λ (rs : List SetRow). rs ++ kept_row (extracted_row db row)) (sym so_far) in
    record {
      each = join_rows old (kept_row (extracted_row db row)) all (kept_is (extracted_row db row) (has_values (extracted_row db row)) refl (values_make_row db row.key (raw_extraction db row.packet) is key values));
      rising = subst (λ (rs : List SetRow). IsStrictlySortedBy key_cmp (map (λ row. row.key) rs)) next (extracted_rise db (take (i + 1) rows) (take_rise (i + 1) rows up));
    }

-- ---- what holds of them

inside_kept : (e : ℕ) (n : ℤ) (b : Bool) (row : SetRow) (rows : List SetRow) → interval_of e row.key.time ≡ n → AllByRecursion (λ r. interval_of e r.key.time ≡ n) rows → AllByRecursion (λ r. interval_of e r.key.time ≡ n) (cond b (row ∷ rows) rows)
inside_kept e n true row rows is all = (is, all)
inside_kept e n false row rows is all = all

pub extracted_inside : (db : Database) (e : ℕ) (n : ℤ) (rows : List Row) → AllByRecursion (λ row. interval_of e row.key.time ≡ n) rows → AllByRecursion (λ row. interval_of e row.key.time ≡ n) (extracted_rows db rows)
extracted_inside db e n [] all = tt
extracted_inside db e n (row ∷ rows) all = inside_kept e n (has_values (extracted_row db row)) (extracted_row db row) (extracted_rows db rows) all.0 (extracted_inside db e n rows all.1)

values_kept : (db : Database) (b : Bool) (row : SetRow) (rows : List SetRow) → AllByRecursion (IsRawValue db) row.values → AreValuesOf db rows → AreValuesOf db (cond b (row ∷ rows) rows)
values_kept db true row rows is all = (is, all)
values_kept db false row rows is all = all

pub extracted_values : (db : Database) (rows : List Row) → ((packet : List ℕ) → AreRawValues db (raw_extraction db packet)) → AreValuesOf db (extracted_rows db rows)
extracted_values db [] are = tt
extracted_values db (row ∷ rows) are = values_kept db (has_values (extracted_row db row)) (extracted_row db row) (extracted_rows db rows) (are row.packet).each (extracted_values db rows are)

-- ---- their cells

joined_maps : (db : Database) (key : Key) (o : Option RawValue) → option_map (set_cell_at db key) o ≡ option_map (cell_at key) (option_map (calibrated_value db) o)
joined_maps db key None = refl
joined_maps db key (Some v) = refl

-- the cell of a row is that of its packet
row_cell : ValueIsCalibrated → (db : Database) (q : ℕ) (row : Row) → set_cell db q (extracted_row db row) ≡ cell_of db q row
row_cell law db q row = joined_maps db row.key (raw_among q (raw_extraction db row.packet)) ∙ ap (option_map (cell_at row.key)) (sym (law db row.packet q))

cells_kept : (db : Database) (q : ℕ) (key : Key) (vs : List RawValue) (rows : List SetRow) → set_cells db q (cond (nat_lt 0 (length vs)) (set_row key vs ∷ rows) rows) ≡ cons_option (set_cell db q (set_row key vs)) (set_cells db q rows)
cells_kept db q key [] rows = refl
cells_kept db q key (v ∷ vs) rows = ap (λ (b : Bool). set_cells db q (cond b (set_row key (v ∷ vs) ∷ rows) rows)) (lt-ltb 0 (length (v ∷ vs)) (omega arith))

pub extracted_cells : ValueIsCalibrated → (db : Database) (q : ℕ) (rows : List Row) → set_cells db q (extracted_rows db rows) ≡ filter_map (cell_of db q) rows
extracted_cells law db q [] = refl
extracted_cells law db q (row ∷ rows) =
    cells_kept db q row.key (raw_extraction db row.packet) (extracted_rows db rows)
    ∙ ap (λ (o : Option Cell). cons_option o (set_cells db q (extracted_rows db rows))) (row_cell law db q row)
    ∙ ap (cons_option (cell_of db q row)) (extracted_cells law db q rows)

-- ---- the loop over rows

-- the rows so far, once the next one is added
pub next_rows : (db : Database) (rows : List Row) (i : ℕ) (row : Row) (old new : List SetRow) (values : List RawValue) → i < length rows → row ≡ get_or rows i row → values ≡ raw_extraction db row.packet →
    old ≡ extracted_rows db (take i rows) → new ≡ old ++ kept_row (set_row row.key values) → new ≡ extracted_rows db (take (i + 1) rows)
next_rows db rows i row old new values lt at are so_far more =
    more ∙ ap (λ (vs : List RawValue). old ++ kept_row (set_row row.key vs)) are ∙ ap (λ (rs : List SetRow). rs ++ kept_row (extracted_row db row)) so_far ∙ sym (extracted_more db rows i row lt at)

-- all rows
pub all_rows : (db : Database) (rows : List Row) (i : ℕ) (built : List SetRow) → length rows ≤ i → built ≡ extracted_rows db (take i rows) → built ≡ extracted_rows db rows
all_rows db rows i built le so_far = so_far ∙ ap (extracted_rows db) (take_all i rows le)

-- the set of the rows of an interval
pub built_is : (db : Database) (e : ℕ) (n : ℤ) (rows : List Row) (built : List SetRow) → IsDatabase db → built ≡ extracted_rows db rows → AllByRecursion IsSetRow built → IsStrictlySortedBy key_cmp (map (λ row. row.key) rows) →
    AllByRecursion (λ row. interval_of e row.key.time ≡ n) rows → IsSetOf db e n built
built_is db e n rows built is same each up inside = record {
  rows = record { each = each; rising = subst (λ (rs : List SetRow). IsStrictlySortedBy key_cmp (map (λ row. row.key) rs)) (sym same) (extracted_rise db rows up) };
  inside = subst (AllByRecursion (λ row. interval_of e row.key.time ≡ n)) (sym same) (extracted_inside db e n rows inside);
  values = subst (AreValuesOf db) (sym same) (extracted_values db rows (λ packet. raw_extraction_keeps_rules db packet is));
}
