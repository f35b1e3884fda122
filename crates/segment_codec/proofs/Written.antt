-- What is written of a column.
use Rattle.std.proofs.Common.{◌≡◌, ◌∙◌, ℕ, zero, suc, ℤ, pos, ◌<◌, ◌≤◌, ◌^◌, Bool, true, false, cond, eqb, List, [], ◌∷◌, length, get_or, drop, refl, sym, ap, subst, arith}
use Rattle.std.specs.Prelude.{◌-ℤ◌, ◌≤ℤ◌, fold, max}
use Rattle.std.specs.List.{AllByRecursion}
use Rattle.std.specs.Int.{w128, int_max, int_min}
use Rattle.std.specs.Int.RustNames.{unsigned_abs}
use Rattle.std.proofs.lemmas.Bool.{eq-eqb}
use Rattle.std.proofs.lemmas.Int.{clamps, ints}
use Rattle.octet_fields.specs.Spelling.{signed}
use Rattle.segment_codec.specs.RawColumn.{IsRawColumn, bit_len, greatest, offsets_from, packed_column, raw_column}
use Rattle.segment_codec.proofs.Columns.{bit_len_of, below_greatest, fold_max_from, form_by_greatest, least_fits}

pub front_is : (values : List ℤ) → 1 ≤ length values → values ≡ get_or values 0 (pos 0) ∷ drop 1 values
front_is [] some = absurd (omega arith)
front_is (v ∷ vs) some = refl

column_cases : (first : ℤ) (others : List ℤ) (b : Bool) → eqb (greatest (offsets_from (fold int_min first others) (first ∷ others))) 0 ≡ b →
    raw_column (first ∷ others) ≡ cond b (0 ∷ signed w128 first) (packed_column (fold int_min first others) (offsets_from (fold int_min first others) (first ∷ others)))
column_cases first others b e = form_by_greatest first others ∙ ap (λ (c : Bool). cond c (0 ∷ signed w128 first) (packed_column (fold int_min first others) (offsets_from (fold int_min first others) (first ∷ others)))) e

pub same_column : (values : List ℤ) (first : ℤ) (others : List ℤ) (low : ℤ) (numbers : List ℕ) → values ≡ first ∷ others → low ≡ fold int_min first others → numbers ≡ offsets_from low values → greatest numbers ≡ 0 → raw_column values ≡ 0 ∷ signed w128 first
same_column values first others low numbers is least are none =
    let zero_top : greatest (offsets_from (fold int_min first others) (first ∷ others)) ≡ 0 = ap (λ (l : ℤ). greatest (offsets_from l (first ∷ others))) (sym least) ∙ ap (λ (vs : List ℤ). greatest (offsets_from low vs)) (sym is) ∙ ap greatest (sym are) ∙ none in
    ap raw_column is ∙ column_cases first others true (eq-eqb _ 0 zero_top)

not_zero : (n : ℕ) → (n ≡ 0 → ⊥) → eqb n 0 ≡ false
not_zero n h = grind arith

pub varied_column : (values : List ℤ) (first : ℤ) (others : List ℤ) (low : ℤ) (numbers : List ℕ) → values ≡ first ∷ others → low ≡ fold int_min first others → numbers ≡ offsets_from low values → (greatest numbers ≡ 0 → ⊥) → raw_column values ≡ packed_column low numbers
varied_column values first others low numbers is least are some =
    let same : offsets_from (fold int_min first others) (first ∷ others) ≡ numbers = ap (λ (l : ℤ). offsets_from l (first ∷ others)) (sym least) ∙ ap (offsets_from low) (sym is) ∙ sym are in
    ap raw_column is ∙ column_cases first others false (ap (λ (ns : List ℕ). eqb (greatest ns) 0) same ∙ not_zero (greatest numbers) some)
    ∙ ap (λ (l : ℤ). packed_column l (offsets_from (fold int_min first others) (first ∷ others))) (sym least) ∙ ap (packed_column low) same

-- each difference is below the power of their greatest's digits
pub numbers_below : (numbers : List ℕ) (top w : ℕ) → top ≡ greatest numbers → top < 2 ^ 128 → w ≡ bit_len top → AllByRecursion (λ n. n < 2 ^ w) numbers
numbers_below numbers top w is small e =
    let bound : top < 2 ^ w = subst (λ (k : ℕ). top < 2 ^ k) (sym e) (bit_len_of top small).0 in
    below_greatest (greatest numbers) numbers (fold_max_from 0 numbers).1 (2 ^ w) (subst (λ (t : ℕ). t < 2 ^ w) is bound)

-- ---- the greatest difference is that of the greatest value

top_more : (low v x : ℤ) → low ≤ℤ v → low ≤ℤ x → max (unsigned_abs (v -ℤ low)) (unsigned_abs (x -ℤ low)) ≡ unsigned_abs (int_max v x -ℤ low)
top_more low v x h k = omega (arith, ints, clamps)

above_max : (low v x : ℤ) → low ≤ℤ v → low ≤ℤ int_max v x
above_max low v x h = omega (arith, ints, clamps)

top_from : (low v : ℤ) (vs : List ℤ) → low ≤ℤ v → AllByRecursion (λ x. low ≤ℤ x) vs → fold max (unsigned_abs (v -ℤ low)) (offsets_from low vs) ≡ unsigned_abs (fold int_max v vs -ℤ low)
top_from low v [] h all = refl
top_from low v (x ∷ vs) h all = ap (λ (t : ℕ). fold max t (offsets_from low vs)) (top_more low v x h all.0) ∙ top_from low (int_max v x) vs (above_max low v x h) all.1

max_zero : (n : ℕ) → max 0 n ≡ n
max_zero n = omega arith

top_is : (v : ℤ) (vs : List ℤ) → greatest (offsets_from (fold int_min v vs) (v ∷ vs)) ≡ unsigned_abs (fold int_max v vs -ℤ fold int_min v vs)
top_is v vs =
    let low = fold int_min v vs in
    let f = least_fits v vs in
    ap (λ (t : ℕ). fold max t (offsets_from low vs)) (max_zero (unsigned_abs (v -ℤ low))) ∙ top_from low v vs f.0 f.1

pub top_of : (values : List ℤ) (first : ℤ) (others : List ℤ) (low high : ℤ) → values ≡ first ∷ others → low ≡ fold int_min first others → high ≡ fold int_max first others → greatest (offsets_from low values) ≡ unsigned_abs (high -ℤ low)
top_of values first others low high is least most =
    ap (λ (vs : List ℤ). greatest (offsets_from low vs)) is ∙ ap (λ (l : ℤ). greatest (offsets_from l (first ∷ others))) least ∙ top_is first others
    ∙ ap (λ (h : ℤ). unsigned_abs (h -ℤ fold int_min first others)) (sym most) ∙ ap (λ (l : ℤ). unsigned_abs (high -ℤ l)) (sym least)

-- ---- the difference at a place

pub offset_at : (low : ℤ) (values : List ℤ) (i : ℕ) → i < length values → get_or (offsets_from low values) i 0 ≡ unsigned_abs (get_or values i (pos 0) -ℤ low)
offset_at low [] i lt = absurd (omega arith)
offset_at low (v ∷ values) zero lt = refl
offset_at low (v ∷ values) (suc i) lt = offset_at low values i (omega arith)

pub offset_below : (w : ℕ) (low : ℤ) (values : List ℤ) (i : ℕ) → AllByRecursion (λ d. d < 2 ^ w) (offsets_from low values) → i < length values → unsigned_abs (get_or values i (pos 0) -ℤ low) < 2 ^ w
offset_below w low [] i all lt = absurd (omega arith)
offset_below w low (v ∷ values) zero all lt = all.0
offset_below w low (v ∷ values) (suc i) all lt = offset_below w low values i all.1 (omega arith)

-- ---- the parts of a segment

-- columns of some rows have values
pub some_values : (rows : ℕ) (columns : List (List ℤ)) → 1 ≤ rows → AllByRecursion (IsRawColumn rows) columns → AllByRecursion (λ column. 1 ≤ length column) columns
some_values rows [] some all = tt
some_values rows (column ∷ columns) some all = ((let len = all.0.0 in omega arith), some_values rows columns some all.1)

-- any number has a spelling
pub any_number : (numbers : List ℕ) → AllByRecursion (λ _. Unit {0}) numbers
any_number [] = tt
any_number (n ∷ numbers) = (tt, any_number numbers)
