-- A raw column is read exactly.
use Rattle.std.proofs.Common.{◌≡◌, ℕ, zero, suc, ℤ, pos, negsuc, ◌+◌, ◌-◌, ◌*◌, ◌%◌, ◌^◌, ◌<◌, ◌≤◌, Bool, true, false, cond, not, ltb, leb, eqb, ◌&&◌, ◌⊎◌, inl, inr, List, [], ◌∷◌, ◌++◌, length, Option, Some, None, refl, sym, ap, subst, ◌∙◌, arith}
use Rattle.std.specs.Prelude.{◌+ℤ◌, ◌-ℤ◌, ◌<ℤ◌, ◌≤ℤ◌, int_lt, map, fold, max, replicate, ◌||◌}
use Rattle.std.specs.List.{AllByRecursion, list_any}
use Rattle.std.specs.Int.{w8, w128, cast_signed, int_min, leading_zeros}
use Rattle.std.specs.Ordering.{int_eq}
use Rattle.std.specs.Int.RustNames.{FitsSigned, unsigned_abs}
use Rattle.std.proofs.lemmas.Bool.{eqb-true, eq-eqb, ltb-true, lt-ltb, le-leb, cases_lt}
use Rattle.std.proofs.lemmas.Int.{ints, clamps, by_lt_z, to_z_pos}
use Rattle.std.proofs.Math.Facts.{to_z-neg}
use Rattle.std.proofs.lemmas.Bool.Decides.{Decides-eqb, Decides-int_eq, same_from_decides}
use Rattle.std.proofs.lemmas.Nat.{leading_length, pow-add}
use Rattle.std.proofs.Math.Nat.{pow-le-pow_right}
use Rattle.octet_fields.specs.Reading.{number_at, signed_at, mapped_at}
use Rattle.octet_fields.specs.Exact.{IsOctets, IsExact}
use Rattle.octet_fields.proofs.Exact.{bind_some, some_is, rest_octets, IsExact-both, IsExact-tested}
use Rattle.octet_fields.specs.Spelling.{signed}
use Rattle.segment_codec.specs.Bits.{packed, packed_at}
use Rattle.segment_codec.specs.RawColumn.{ColumnParts, IsRawColumn, are_all, bit_len, column_parts_at, greatest, is_tight, is_width, offsets_from, packed_column, raw_column, raw_column_at, same_at, unpacked, value_above, values_of_parts}
use Rattle.segment_codec.specs.declared.unpack.Unpacked.{Unpacked}
use Rattle.segment_codec.proofs.Leaves.{exact8}
use Rattle.octet_fields.proofs.Numbers.{exact_i128}
use Rattle.segment_codec.proofs.Packing.{packed_exact}

wide_exact : IsExact (FitsSigned w128) (signed w128) (signed_at w128)
wide_exact = exact_i128

-- ---- least and greatest

-- low is among the values, and not above any
abbrev pub IsAmong : ℤ → List ℤ → Type 0
IsAmong low [] = ⊥
IsAmong low (v ∷ vs) = (low ≡ v) ⊎ IsAmong low vs

pub refl_le : (v : ℤ) → v ≤ℤ v
refl_le v = omega (arith, ints)

both_above : (low v x : ℤ) → low ≤ℤ v → low ≤ℤ x → low ≤ℤ int_min v x
both_above low v x h k = omega (arith, ints, clamps)

min_left : (v x : ℤ) → v ≤ℤ x → (int_min v x ≡ v) × (v ≤ℤ x)
min_left v x le = (omega (arith, ints, clamps), le)

min_right : (v x : ℤ) → x <ℤ v → (int_min v x ≡ x) × (x ≤ℤ v)
min_right v x lt = (omega (arith, ints, clamps), omega (arith, ints))

min_cases : (v x : ℤ) → ((int_min v x ≡ v) × (v ≤ℤ x)) ⊎ ((int_min v x ≡ x) × (x ≤ℤ v))
min_cases v x = by_lt_z x v (λ lt. inr (min_right v x lt)) (λ le. inl (min_left v x le))

min_is : (low v x : ℤ) → low ≤ℤ v → low ≤ℤ x → ((low ≡ v) ⊎ (low ≡ x)) → int_min v x ≡ low
min_is low v x h k (inl e) = omega (arith, ints, clamps)
min_is low v x h k (inr e) = omega (arith, ints, clamps)

among_min : (low v x : ℤ) (vs : List ℤ) → low ≤ℤ v → low ≤ℤ x → IsAmong low (v ∷ x ∷ vs) → IsAmong low (int_min v x ∷ vs)
among_min low v x vs h k (inl e) = inl (sym (min_is low v x h k (inl e)))
among_min low v x vs h k (inr (inl e)) = inl (sym (min_is low v x h k (inr e)))
among_min low v x vs h k (inr (inr more)) = inr more

pub least_is : (low v : ℤ) (vs : List ℤ) → low ≤ℤ v → AllByRecursion (λ x. low ≤ℤ x) vs → IsAmong low (v ∷ vs) → fold int_min v vs ≡ low
least_is low v [] le all (inl e) = sym e
least_is low v [] le all (inr never) = absurd never
least_is low v (x ∷ vs) le all among = least_is low (int_min v x) vs (both_above low v x le all.0) all.1 (among_min low v x vs le all.0 among)

le_trans : (a b c : ℤ) → a ≤ℤ b → b ≤ℤ c → a ≤ℤ c
le_trans a b c h k = omega (arith, ints)

le_from : (a b : ℤ) → a ≡ b → a ≤ℤ b
le_from a b e = omega (arith, ints)

among_left : (low v x m : ℤ) (vs : List ℤ) → m ≡ v → IsAmong low (m ∷ vs) → IsAmong low (v ∷ x ∷ vs)
among_left low v x m vs e (inl f) = inl (f ∙ e)
among_left low v x m vs e (inr more) = inr (inr more)

among_right : (low v x m : ℤ) (vs : List ℤ) → m ≡ x → IsAmong low (m ∷ vs) → IsAmong low (v ∷ x ∷ vs)
among_right low v x m vs e (inl f) = inr (inl (f ∙ e))
among_right low v x m vs e (inr more) = inr (inr more)

pub least_fits : (v : ℤ) (vs : List ℤ) → ((fold int_min v vs) ≤ℤ v) × AllByRecursion (λ x. (fold int_min v vs) ≤ℤ x) vs × IsAmong (fold int_min v vs) (v ∷ vs)
least_fits v [] = (refl_le v, tt, inl refl)
least_fits v (x ∷ vs) =
    let more = least_fits (int_min v x) vs in
    elim (min_cases v x) [
      | inl left ↦ (le_trans _ _ _ more.0 (le_from _ _ left.0), (le_trans _ _ _ more.0 (le_trans _ _ _ (le_from _ _ left.0) left.1), more.1), among_left _ v x (int_min v x) vs left.0 more.2)
      | inr right ↦ (le_trans _ _ _ more.0 (le_trans _ _ _ (le_from _ _ right.0) right.1), (le_trans _ _ _ more.0 (le_from _ _ right.0), more.1), among_right _ v x (int_min v x) vs right.0 more.2)
    ]

offset_back : (low v : ℤ) → low ≤ℤ v → low +ℤ pos (unsigned_abs (v -ℤ low)) ≡ v
offset_back low v le = omega (arith, ints)

offset_of : (low : ℤ) (d : ℕ) → unsigned_abs ((low +ℤ pos d) -ℤ low) ≡ d
offset_of low d = omega (arith, ints)

values-offsets : (low : ℤ) (ds : List ℕ) → offsets_from low (map (λ d. low +ℤ pos d) ds) ≡ ds
values-offsets low [] = refl
values-offsets low (d ∷ ds) = let e = offset_of low d in let more = values-offsets low ds in cc

offsets-values : (low : ℤ) (vs : List ℤ) → AllByRecursion (λ x. low ≤ℤ x) vs → map (λ d. low +ℤ pos d) (offsets_from low vs) ≡ vs
offsets-values low [] all = refl
offsets-values low (v ∷ vs) all = let e = offset_back low v all.0 in let more = offsets-values low vs all.1 in cc

-- ---- the number of digits

bit_len_at : (n z m : ℕ) → z + m ≡ 128 → 128 - z ≡ m
bit_len_at n z m e = omega arith

pub bit_len_of : (n : ℕ) → n < 2 ^ 128 → (n < 2 ^ bit_len n) × (bit_len n ≤ 128)
unfolding bit_len
bit_len_of n lt =
    let l = leading_length 128 n lt in
    let e : bit_len n ≡ l.0 = bit_len_at n (leading_zeros w128 n) l.0 l.1 in
    (subst (λ (k : ℕ). n < 2 ^ k) (sym e) l.2, omega (arith, l.1))

pub bit_len_least : (n w : ℕ) → n < 2 ^ 128 → n < 2 ^ w → bit_len n ≤ w
unfolding bit_len
bit_len_least n w lt below =
    let l = leading_length 128 n lt in
    let e : bit_len n ≡ l.0 = bit_len_at n (leading_zeros w128 n) l.0 l.1 in
    subst (λ (k : ℕ). k ≤ w) (sym e) (elim (cases_lt w l.0) [
      | inl more ↦ absurd (
          let grows = pow-le-pow_right {n = 2} (omega arith) {i = w + 1} {j = l.0} (omega arith) in
          let twice : 2 ^ (w + 1) ≡ 2 ^ w * 2 = pow-add 2 w 1 in
          let double = l.3 in
          omega arith)
      | inr le ↦ le
    ])

bit_len_0 : bit_len 0 ≡ 0
unfolding bit_len lib.Count.count_leading_zeros
bit_len_0 = refl

bit_len_positive : (n : ℕ) → 0 < n → n < 2 ^ 128 → 0 < bit_len n
bit_len_positive n above lt = elim (cases_lt 0 (bit_len n)) [ inl h ↦ h | inr none ↦ absurd (let b = (bit_len_of n lt).0 in let zero : bit_len n ≡ 0 = omega arith in let c : n < 2 ^ 0 = subst (λ (k : ℕ). n < 2 ^ k) zero b in omega arith) ]

-- ---- the greatest difference

pub fold_max_from : (a : ℕ) (ds : List ℕ) → (a ≤ fold max a ds) × AllByRecursion (λ d. d ≤ fold max a ds) ds
fold_max_from a [] = (omega arith, tt)
fold_max_from a (d ∷ ds) = let more = fold_max_from (max a d) ds in (omega (arith, more.0), (omega (arith, more.0), more.1))

-- of all that holds of the start and of each
fold_max_keeps : (P : ℕ → Type 0) (a : ℕ) (ds : List ℕ) → P a → AllByRecursion P ds → P (fold max a ds)
fold_max_keeps P a [] h all = h
fold_max_keeps P a (d ∷ ds) h all = fold_max_keeps P (max a d) ds (elim (cases_lt a d) [ inl lt ↦ (let e : max a d ≡ d = omega arith in subst P (sym e) all.0) | inr le ↦ (let e : max a d ≡ a = omega arith in subst P (sym e) h) ]) all.1

pub below_greatest : (n : ℕ) (ds : List ℕ) → AllByRecursion (λ d. d ≤ n) ds → (k : ℕ) → n < k → AllByRecursion (λ d. d < k) ds
below_greatest n [] all k lt = tt
below_greatest n (d ∷ ds) all k lt = ((let h = all.0 in omega arith), below_greatest n ds all.1 k lt)

pub and_true : (a b : Bool) → (a && b) ≡ true → (a ≡ true) × (b ≡ true)
and_true true b e = (refl, e)
and_true false b e = absurd cc

-- ---- where all values are equal, none lies above the least

pub all_same : (v : ℤ) (m : ℕ) → AllByRecursion (λ x. v ≤ℤ x) (replicate m v)
all_same v zero = tt
all_same v (suc m) = (refl_le v, all_same v m)

no_offsets : (v : ℤ) (m : ℕ) → AllByRecursion (λ d. d ≡ 0) (offsets_from v (replicate m v))
no_offsets v zero = tt
no_offsets v (suc m) = (omega (arith, ints), no_offsets v m)

none_apart : (low : ℤ) (vs : List ℤ) → AllByRecursion (λ x. low ≤ℤ x) vs → AllByRecursion (λ d. d ≤ 0) (offsets_from low vs) → vs ≡ replicate (length vs) low
none_apart low [] above none = refl
none_apart low (v ∷ vs) above none =
    let first : v ≡ low = let h = above.0 in let k = none.0 in omega (arith, ints) in
    let more = none_apart low vs above.1 none.1 in
    cc

all_equal : (v : ℤ) (vs : List ℤ) → are_all v vs ≡ true → vs ≡ replicate (length vs) v
all_equal v [] e = refl
all_equal v (x ∷ vs) e =
    let a = and_true (int_eq x v) (are_all v vs) e in
    let first : x ≡ v = (Decides-int_eq x v).0 a.0 in
    let more = all_equal v vs a.1 in
    cc

all_of_same : (v : ℤ) (m : ℕ) → are_all v (replicate m v) ≡ true
all_of_same v zero = refl
all_of_same v (suc m) = let first : int_eq v v ≡ true = (Decides-int_eq v v).1 refl in rw first (all_of_same v m)

none_above : (v : ℤ) (vs : List ℤ) → are_all v vs ≡ true → greatest (offsets_from (fold int_min v vs) (v ∷ vs)) ≡ 0
none_above v vs e =
    let m = length vs in
    let least : fold int_min v (replicate m v) ≡ v = least_is v v (replicate m v) (refl_le v) (all_same v m) (inl refl) in
    let none : greatest (offsets_from v (v ∷ replicate m v)) ≡ 0 = fold_max_keeps (λ a. a ≡ 0) 0 (offsets_from v (v ∷ replicate m v)) refl (no_offsets v (suc m)) in
    ap (λ (xs : List ℤ). greatest (offsets_from (fold int_min v xs) (v ∷ xs))) (all_equal v vs e) ∙ ap (λ (l : ℤ). greatest (offsets_from l (v ∷ replicate m v))) least ∙ none

above_none : (v : ℤ) (vs : List ℤ) → greatest (offsets_from (fold int_min v vs) (v ∷ vs)) ≡ 0 → are_all v vs ≡ true
above_none v vs top =
    let low = fold int_min v vs in
    let f = least_fits v vs in
    let os = offsets_from low (v ∷ vs) in
    let none : AllByRecursion (λ d. d ≤ 0) os = subst (λ (t : ℕ). AllByRecursion (λ d. d ≤ t) os) top (fold_max_from 0 os).1 in
    let first : v ≡ low = let h = f.0 in let k = none.0 in omega (arith, ints) in
    ap (are_all v) (none_apart low vs f.1 none.1 ∙ ap (replicate (length vs)) (sym first)) ∙ all_of_same v (length vs)

-- the form by the greatest difference, which is what the code asks
pub form_by_greatest : (v : ℤ) (vs : List ℤ) →
    raw_column (v ∷ vs) ≡ cond (eqb (greatest (offsets_from (fold int_min v vs) (v ∷ vs))) 0) (0 ∷ signed w128 v) (packed_column (fold int_min v vs) (offsets_from (fold int_min v vs) (v ∷ vs)))
unfolding raw_column
form_by_greatest v vs =
    let top = greatest (offsets_from (fold int_min v vs) (v ∷ vs)) in
    ap (λ (b : Bool). cond b (0 ∷ signed w128 v) (packed_column (fold int_min v vs) (offsets_from (fold int_min v vs) (v ∷ vs)))) (same_from_decides (are_all v vs) (eqb top 0) (none_above v vs, above_none v vs) (Decides-eqb top 0))

-- ---- reading form 1

abbrev PartsFit : ℕ → ColumnParts → Type 0
PartsFit n p = (FitsSigned w128 p.0 × (((p.1.0 < 2 ^ 8) × (is_width p.1.0 ≡ true)) × ((length p.1.1 ≡ n) × AllByRecursion (λ x. x < 2 ^ p.1.0) p.1.1))) × (is_tight p ≡ true)

abbrev parts : ColumnParts → List ℕ
parts p = signed w128 p.0 ++ (p.1.0 ∷ [] ++ packed p.1.0 p.1.1)

parts_exact : (n : ℕ) → IsExact (PartsFit n) parts (column_parts_at n)
unfolding column_parts_at
parts_exact n = IsExact-tested (IsExact-both wide_exact (λ _ _. IsExact-both (IsExact-tested exact8 is_width) (λ w _. packed_exact w n))) is_tight

pub int_lt_true : (a b : ℤ) → int_lt a b ≡ true → a <ℤ b
int_lt_true a b e = grind (arith, ints)

true_int_lt : (a b : ℤ) → a <ℤ b → int_lt a b ≡ true
true_int_lt a b h = grind (arith, ints)

pub raised_above : (low : ℤ) (ds : List ℕ) → AllByRecursion (λ x. low ≤ℤ x) (map (λ d. low +ℤ pos d) ds)
raised_above low [] = tt
raised_above low (d ∷ ds) = ((omega (arith, ints)), raised_above low ds)

test_false : (n : ℕ) → 0 < n → eqb n 0 ≡ false
test_false n h = grind arith

pub any_among : (low : ℤ) (ds : List ℕ) → list_any (λ d. eqb d 0) ds ≡ true → IsAmong low (map (λ d. low +ℤ pos d) ds)
any_among low [] e = absurd cc
any_among low (zero ∷ ds) e = inl (omega (arith, ints))
any_among low (suc d ∷ ds) e = let t = test_false (suc d) (omega arith) in let more = rw t at e in inr (any_among low ds more)

pub fits_between : (low : ℤ) (top d : ℕ) → FitsSigned w128 low → (low +ℤ pos top) <ℤ pos (2 ^ 127) → d ≤ top → FitsSigned w128 (low +ℤ pos d)
fits_between low top d h lt le = let s = h.sfits in let high = lt.lt in record { sfits = grind (arith, ints) }

below_high : (v : ℤ) → FitsSigned w128 v → v <ℤ pos (2 ^ 127)
below_high v h = let s = h.sfits in grind (arith, ints)

short_offset : (low v : ℤ) → FitsSigned w128 low → FitsSigned w128 v → unsigned_abs (v -ℤ low) < 2 ^ 128
short_offset low v h k = let s = h.sfits in let t = k.sfits in omega (arith, ints)

zero_more : (low : ℤ) → low ≡ low +ℤ pos 0
zero_more low = omega (arith, ints)

or_right : (a b : Bool) → b ≡ true → (a || b) ≡ true
or_right true b e = refl
or_right false b e = e

among_any : (low : ℤ) (vs : List ℤ) → IsAmong low vs → list_any (λ d. eqb d 0) (offsets_from low vs) ≡ true
among_any low [] never = absurd never
among_any low (v ∷ vs) (inl e) = let z : unsigned_abs (v -ℤ low) ≡ 0 = omega (arith, ints) in rw z refl
among_any low (v ∷ vs) (inr more) = or_right (eqb (unsigned_abs (v -ℤ low)) 0) _ (among_any low vs more)

raised_fit : (low : ℤ) (top : ℕ) (ds : List ℕ) → FitsSigned w128 low → (low +ℤ pos top) <ℤ pos (2 ^ 127) → AllByRecursion (λ d. d ≤ top) ds → AllByRecursion (FitsSigned w128) (map (λ d. low +ℤ pos d) ds)
raised_fit low top [] h lt all = tt
raised_fit low top (d ∷ ds) h lt all = (fits_between low top d h lt all.0, raised_fit low top ds h lt all.1)

length-raised : (low : ℤ) (ds : List ℕ) → length (map (λ d. low +ℤ pos d) ds) ≡ length ds
length-raised low [] = refl
length-raised low (d ∷ ds) = ap suc (length-raised low ds)

raw_varied_cons : (n w d : ℕ) (ds : List ℕ) (low : ℤ) → PartsFit n (low, (w, d ∷ ds)) → (raw_column (values_of_parts (low, (w, d ∷ ds))) ≡ 1 ∷ parts (low, (w, d ∷ ds))) × IsRawColumn n (values_of_parts (low, (w, d ∷ ds)))
raw_varied_cons n w d ds low fit =
    let all = d ∷ ds in
    let top = greatest all in
    let a = and_true (list_any (λ d. eqb d 0) all) (eqb (bit_len top) w && int_lt (low +ℤ pos top) (pos (2 ^ 127))) fit.1 in
    let b = and_true (eqb (bit_len top) w) (int_lt (low +ℤ pos top) (pos (2 ^ 127))) a.1 in
    let width : bit_len top ≡ w = eqb-true _ _ b.0 in
    let high : (low +ℤ pos top) <ℤ pos (2 ^ 127) = int_lt_true _ _ b.1 in
    let c = and_true (ltb 0 w) (leb w 128) fit.0.1.0.1 in
    let some : 0 < w = ltb-true _ _ c.0 in
    let positive : 0 < top = elim (cases_lt 0 top) [ inl h ↦ h | inr none ↦ absurd (let z : top ≡ 0 = omega arith in let y = ap bit_len z ∙ bit_len_0 in omega arith) ] in
    let above = raised_above low all in
    let low_is : fold int_min (low +ℤ pos d) (map (λ d. low +ℤ pos d) ds) ≡ low = least_is low (low +ℤ pos d) (map (λ d. low +ℤ pos d) ds) above.0 above.1 (any_among low all a.0) in
    let back = values-offsets low all in
    let spelled : cond (eqb (greatest (offsets_from low (map (λ d. low +ℤ pos d) all))) 0) (0 ∷ signed w128 (low +ℤ pos d)) (packed_column low (offsets_from low (map (λ d. low +ℤ pos d) all))) ≡ 1 ∷ parts (low, (w, all)) =
    ap (λ (os : List ℕ). cond (eqb (greatest os) 0) (0 ∷ signed w128 (low +ℤ pos d)) (packed_column low os)) back ∙ ap (λ (t : Bool). cond t (0 ∷ signed w128 (low +ℤ pos d)) (packed_column low all)) (test_false top positive)
    ∙ ap (λ (k : ℕ). 1 ∷ (signed w128 low ++ (k ∷ packed k all))) width in (
      form_by_greatest (low +ℤ pos d) (map (λ d. low +ℤ pos d) ds) ∙ ap (λ (l : ℤ). cond (eqb (greatest (offsets_from l (map (λ d. low +ℤ pos d) all))) 0) (0 ∷ signed w128 (low +ℤ pos d)) (packed_column l (offsets_from l (map (λ d. low +ℤ pos d) all)))) low_is ∙ spelled,
      (length-raised low all ∙ fit.0.1.1.0, raised_fit low top all fit.0.0 high (fold_max_from 0 all).1),
    )

raw_varied : (n : ℕ) → 1 ≤ n → (p : ColumnParts) → PartsFit n p → (raw_column (values_of_parts p) ≡ 1 ∷ parts p) × IsRawColumn n (values_of_parts p)
raw_varied n some (low, (w, [])) fit = absurd (let e = fit.0.1.1.0 in omega arith)
raw_varied n some (low, (w, d ∷ ds)) fit = raw_varied_cons n w d ds low fit

-- ---- reading form 0

same_fit : (v : ℤ) (m : ℕ) → FitsSigned w128 v → AllByRecursion (FitsSigned w128) (replicate m v)
same_fit v zero h = tt
same_fit v (suc m) h = (h, same_fit v m h)

length-same : (v : ℤ) (m : ℕ) → length (replicate m v) ≡ m
length-same v zero = refl
length-same v (suc m) = ap suc (length-same v m)

raw_same : (v : ℤ) (m : ℕ) → raw_column (replicate (suc m) v) ≡ 0 ∷ signed w128 v
unfolding raw_column
raw_same v m = ap (λ (b : Bool). cond b (0 ∷ signed w128 v) (packed_column (fold int_min v (replicate m v)) (offsets_from (fold int_min v (replicate m v)) (v ∷ replicate m v)))) (all_of_same v m)

-- ---- both forms

pub chosen : {A : Type 0} (b : Bool) (x y : Option A) (z : A) → cond b x y ≡ Some z → ((b ≡ true) × (x ≡ Some z)) ⊎ ((b ≡ false) × (y ≡ Some z))
chosen true x y z e = inl (refl, e)
chosen false x y z e = inr (refl, e)

pub if_some : {A : Type 0} (b : Bool) (x : Option A) (y : A) → cond b x None ≡ Some y → (b ≡ true) × (x ≡ Some y)
if_some true x y e = (refl, e)
if_some false x y e = absurd cc

same_takes : (n : ℕ) → 1 ≤ n → (octets : List ℕ) (x : List ℤ × List ℕ) → IsOctets octets → same_at n octets ≡ Some x → (0 ∷ octets ≡ raw_column x.0 ++ x.1) × IsRawColumn n x.0
unfolding same_at
same_takes zero some octets x are e = absurd (omega arith)
same_takes (suc m) some octets x are e =
    let p = bind_some (signed_at w128 octets) (λ a. Some (replicate (suc m) a.0, a.1)) x e in
    let t = wide_exact.takes octets p.0 are p.1 in
    let made : List ℤ × List ℕ = (replicate (suc m) p.0.0, p.0.1) in
    subst (λ (y : List ℤ × List ℕ). (0 ∷ octets ≡ raw_column y.0 ++ y.1) × IsRawColumn (suc m) y.0) (some_is made x p.2)
    (ap (λ (o : List ℕ). 0 ∷ o) t.0 ∙ ap (λ (o : List ℕ). o ++ p.0.1) (sym (raw_same p.0.0 m)), (length-same p.0.0 (suc m), same_fit p.0.0 (suc m) t.1))

varied_takes : (n : ℕ) → 1 ≤ n → (octets : List ℕ) (x : List ℤ × List ℕ) → IsOctets octets → mapped_at values_of_parts (column_parts_at n) octets ≡ Some x → (1 ∷ octets ≡ raw_column x.0 ++ x.1) × IsRawColumn n x.0
varied_takes n some octets x are e =
    let p = bind_some (column_parts_at n octets) (λ a. Some (values_of_parts a.0, a.1)) x e in
    let t = (parts_exact n).takes octets p.0 are p.1 in
    let r = raw_varied n some p.0.0 t.1 in
    let made : List ℤ × List ℕ = (values_of_parts p.0.0, p.0.1) in
    subst (λ (y : List ℤ × List ℕ). (1 ∷ octets ≡ raw_column y.0 ++ y.1) × IsRawColumn n y.0) (some_is made x p.2)
    (ap (λ (o : List ℕ). 1 ∷ o) t.0 ∙ ap (λ (o : List ℕ). o ++ p.0.1) (sym r.0), r.1)

takes : (n : ℕ) → 1 ≤ n → (octets : List ℕ) (x : List ℤ × List ℕ) → IsOctets octets → raw_column_at n octets ≡ Some x → (octets ≡ raw_column x.0 ++ x.1) × IsRawColumn n x.0
unfolding raw_column_at
takes n some octets x are e =
    let p = bind_some (number_at w8 octets) (λ form. cond (eqb form.0 0) (same_at n form.1) (cond (eqb form.0 1) (mapped_at values_of_parts (column_parts_at n) form.1) None)) x e in
    let t = exact8.takes octets p.0 are p.1 in
    let rest_are = rest_octets (p.0.0 ∷ []) p.0.1 (subst IsOctets t.0 are) in
    elim (chosen (eqb p.0.0 0) (same_at n p.0.1) (cond (eqb p.0.0 1) (mapped_at values_of_parts (column_parts_at n) p.0.1) None) x p.2) [
      | inl zero_form ↦
          let s = same_takes n some p.0.1 x rest_are zero_form.1 in
          (t.0 ∙ ap (λ (k : ℕ). k ∷ p.0.1) (eqb-true _ _ zero_form.0) ∙ s.0, s.1)
      | inr other ↦
          let g = if_some (eqb p.0.0 1) (mapped_at values_of_parts (column_parts_at n) p.0.1) x other.1 in
          let s = varied_takes n some p.0.1 x rest_are g.1 in
          (t.0 ∙ ap (λ (k : ℕ). k ∷ p.0.1) (eqb-true _ _ g.0) ∙ s.0, s.1)
    ]

-- ---- what fits is read again

among_holds : (P : ℤ → Type 0) (low : ℤ) (vs : List ℤ) → IsAmong low vs → AllByRecursion P vs → P low
among_holds P low [] never all = absurd never
among_holds P low (v ∷ vs) (inl e) all = subst P (sym e) all.0
among_holds P low (v ∷ vs) (inr more) all = among_holds P low vs more all.1

offsets_high : (low : ℤ) (vs : List ℤ) → AllByRecursion (λ x. low ≤ℤ x) vs → AllByRecursion (FitsSigned w128) vs → AllByRecursion (λ d. (low +ℤ pos d) <ℤ pos (2 ^ 127)) (offsets_from low vs)
offsets_high low [] above fit = tt
offsets_high low (v ∷ vs) above fit = (subst (λ (z : ℤ). z <ℤ pos (2 ^ 127)) (sym (offset_back low v above.0)) (below_high v fit.0), offsets_high low vs above.1 fit.1)

pub length-offsets : (low : ℤ) (vs : List ℤ) → length (offsets_from low vs) ≡ length vs
length-offsets low [] = refl
length-offsets low (v ∷ vs) = ap suc (length-offsets low vs)

bool_cases : (b : Bool) → (b ≡ true) ⊎ (b ≡ false)
bool_cases true = inl refl
bool_cases false = inr refl

column_0 : (n : ℕ) (octets : List ℕ) → raw_column_at n (0 ∷ octets) ≡ same_at n octets
unfolding raw_column_at
column_0 n octets = rw (exact8.again 0 octets tt (omega arith)) refl

column_1 : (n : ℕ) (octets : List ℕ) → raw_column_at n (1 ∷ octets) ≡ mapped_at values_of_parts (column_parts_at n) octets
unfolding raw_column_at
column_1 n octets = rw (exact8.again 1 octets tt (omega arith)) refl

same_again : (n : ℕ) (v : ℤ) (rest : List ℕ) → FitsSigned w128 v → same_at n (signed w128 v ++ rest) ≡ Some (replicate n v, rest)
unfolding same_at
same_again n v rest h = rw (wide_exact.again v rest tt h) refl

short_offsets : (low : ℤ) (vs : List ℤ) → FitsSigned w128 low → AllByRecursion (FitsSigned w128) vs → AllByRecursion (λ d. d < 2 ^ 128) (offsets_from low vs)
short_offsets low [] h all = tt
short_offsets low (v ∷ vs) h all = (short_offset low v h all.0, short_offsets low vs h all.1)

-- what the least, the width and the differences of values are
fits_parts : (v : ℤ) (vs : List ℤ) → IsRawColumn (length (v ∷ vs)) (v ∷ vs) → eqb (greatest (offsets_from (fold int_min v vs) (v ∷ vs))) 0 ≡ false →
    PartsFit (length (v ∷ vs)) (fold int_min v vs, (bit_len (greatest (offsets_from (fold int_min v vs) (v ∷ vs))), offsets_from (fold int_min v vs) (v ∷ vs)))
fits_parts v vs fit test =
    let low = fold int_min v vs in
    let f = least_fits v vs in
    let above : AllByRecursion (λ x. low ≤ℤ x) (v ∷ vs) = (f.0, f.1) in
    let os = offsets_from low (v ∷ vs) in
    let top = greatest os in
    let low_fits = among_holds (FitsSigned w128) low (v ∷ vs) f.2 fit.1 in
    let small : top < 2 ^ 128 = fold_max_keeps (λ a. a < 2 ^ 128) 0 os (omega arith) (short_offsets low (v ∷ vs) low_fits fit.1) in
    let positive : 0 < top = grind arith in
    let b = bit_len_of top small in
    let p = bit_len_positive top positive small in
    let high : (low +ℤ pos top) <ℤ pos (2 ^ 127) = fold_max_keeps (λ a. (low +ℤ pos a) <ℤ pos (2 ^ 127)) 0 os (subst (λ (z : ℤ). z <ℤ pos (2 ^ 127)) (zero_more low) (below_high low low_fits)) (offsets_high low (v ∷ vs) above fit.1) in
    let width_ok : is_width (bit_len top) ≡ true = rw (lt-ltb 0 (bit_len top) p, le-leb (bit_len top) 128 b.1) refl in
    let tight : is_tight (low, (bit_len top, os)) ≡ true = rw (among_any low (v ∷ vs) f.2, eq-eqb (bit_len top) (bit_len top) refl, true_int_lt _ _ high) refl in
    ((low_fits, (((omega (arith, b.1)), width_ok), (length-offsets low (v ∷ vs), below_greatest top os (fold_max_from 0 os).1 (2 ^ bit_len top) b.0))), tight)

again_cons : (v : ℤ) (vs : List ℤ) (rest : List ℕ) → IsRawColumn (length (v ∷ vs)) (v ∷ vs) → raw_column_at (length (v ∷ vs)) (raw_column (v ∷ vs) ++ rest) ≡ Some (v ∷ vs, rest)
again_cons v vs rest fit =
    let n = length (v ∷ vs) in
    let low = fold int_min v vs in
    let f = least_fits v vs in
    let above : AllByRecursion (λ x. low ≤ℤ x) (v ∷ vs) = (f.0, f.1) in
    let os = offsets_from low (v ∷ vs) in
    elim (bool_cases (eqb (greatest os) 0)) [
      | inl test ↦
          let top : greatest os ≡ 0 = eqb-true _ _ test in
          let none : AllByRecursion (λ d. d ≤ 0) os = subst (λ (t : ℕ). AllByRecursion (λ d. d ≤ t) os) top (fold_max_from 0 os).1 in
          let all = none_apart low (v ∷ vs) above none in
          let first : v ≡ low = let h = f.0 in let k = none.0 in omega (arith, ints) in
          ap (λ (o : List ℕ). raw_column_at n (o ++ rest)) (form_by_greatest v vs) ∙ ap (λ (b : Bool). raw_column_at n (cond b (0 ∷ signed w128 v) (packed_column low os) ++ rest)) test ∙ column_0 n (signed w128 v ++ rest) ∙ same_again n v rest fit.1.0
          ∙ ap (λ (z : ℤ). Some (replicate n z, rest)) first ∙ ap (λ (xs : List ℤ). Some (xs, rest)) (sym all)
      | inr test ↦
          let p : ColumnParts = (low, (bit_len (greatest os), os)) in
          let read = (parts_exact n).again p rest tt (fits_parts v vs fit test) in
          ap (λ (o : List ℕ). raw_column_at n (o ++ rest)) (form_by_greatest v vs) ∙ ap (λ (b : Bool). raw_column_at n (cond b (0 ∷ signed w128 v) (packed_column low os) ++ rest)) test ∙ column_1 n (parts p ++ rest)
          ∙ (rw read (ap (λ (xs : List ℤ). Some (xs, rest)) (offsets-values low (v ∷ vs) above)))
    ]

again : (n : ℕ) → 1 ≤ n → (values : List ℤ) (rest : List ℕ) → IsRawColumn n values → raw_column_at n (raw_column values ++ rest) ≡ Some (values, rest)
again n some [] rest fit = absurd (let e = fit.0 in omega arith)
again n some (v ∷ vs) rest fit = subst (λ (k : ℕ). raw_column_at k (raw_column (v ∷ vs) ++ rest) ≡ Some (v ∷ vs, rest)) fit.0 (again_cons v vs rest (refl, fit.1))

pub column_exact : (n : ℕ) → 1 ≤ n → IsExact (IsRawColumn n) raw_column (raw_column_at n)
column_exact n some = record { takes = takes n some; again = λ values rest may fit. again n some values rest fit }

-- ---- what the code does

-- a value above the least, where it fits
pub value_fits : (low : ℤ) (d : ℕ) → FitsSigned w128 low → FitsSigned w128 (low +ℤ pos d) → value_above low d ≡ low +ℤ pos d
value_fits (pos a) d h k =
    let small : a + d < 2 ^ 127 = k.sfits in
    let whole : (a + d) % 2 ^ 128 ≡ a + d = omega arith in
    ap (cast_signed w128) whole ∙ to_z_pos w128 (a + d) small
value_fits (negsuc a) d h k =
    let small : a < 2 ^ 127 = h.sfits in
    elim (cases_lt a d) [
      | inl lt ↦
          let sum : negsuc a +ℤ pos d ≡ pos (d - suc a) = omega (arith, ints) in
          let below : d - suc a < 2 ^ 127 = (subst (FitsSigned w128) sum k).sfits in
          let whole : (2 ^ 128 - suc a + d) % 2 ^ 128 ≡ d - suc a = omega arith in
          ap (cast_signed w128) whole ∙ to_z_pos w128 (d - suc a) below ∙ sym sum
      | inr le ↦
          let sum : negsuc a +ℤ pos d ≡ negsuc (a - d) = omega (arith, ints) in
          let below : a - d < 2 ^ 127 = omega arith in
          let whole : (2 ^ 128 - suc a + d) % 2 ^ 128 ≡ 2 ^ 128 - suc (a - d) = omega arith in
          ap (cast_signed w128) whole ∙ to_z-neg w128 (a - d) below ∙ sym sum
    ]

pub values_same : (low : ℤ) (top : ℕ) (ds : List ℕ) → FitsSigned w128 low → (low +ℤ pos top) <ℤ pos (2 ^ 127) → AllByRecursion (λ d. d ≤ top) ds → map (value_above low) ds ≡ map (λ d. low +ℤ pos d) ds
values_same low top [] h lt all = refl
values_same low top (d ∷ ds) h lt all =
    let e = value_fits low d h (fits_between low top d h lt all.0) in
    let more = values_same low top ds h lt all.1 in
    cc

-- `is_tight`, of what was kept
abbrev pub is_tight_as : ℤ → ℕ → Unpacked → Bool
is_tight_as low w kept = kept.has_zero && (eqb (bit_len kept.top) w && int_lt (low +ℤ pos kept.top) (pos (2 ^ 127)))

tested : (low : ℤ) (w : ℕ) (ds rest : List ℕ) → FitsSigned w128 low → (b : Bool) → is_tight (low, (w, ds)) ≡ b →
    mapped_at values_of_parts (λ octets. cond b (Some ((low, (w, ds)), octets)) None) rest ≡ cond b (Some (map (value_above low) ds, rest)) None
tested low w ds rest h true e =
    let a = and_true (list_any (λ d. eqb d 0) ds) (eqb (bit_len (greatest ds)) w && int_lt (low +ℤ pos (greatest ds)) (pos (2 ^ 127))) e in
    let b = and_true (eqb (bit_len (greatest ds)) w) (int_lt (low +ℤ pos (greatest ds)) (pos (2 ^ 127))) a.1 in
    ap (λ (vs : List ℤ). Some (vs, rest)) (sym (values_same low (greatest ds) ds h (int_lt_true _ _ b.1) (fold_max_from 0 ds).1))
tested low w ds rest h false e = refl

read_whole : (count : ℕ) (octets r1 r2 r3 : List ℕ) (low : ℤ) (w : ℕ) (ds : List ℕ) → FitsSigned w128 low → signed_at w128 octets ≡ Some (low, r1) → number_at w8 r1 ≡ Some (w, r2) → 1 ≤ w → w ≤ 128 →
    packed_at w count r2 ≡ Some (ds, r3) → mapped_at values_of_parts (column_parts_at count) octets ≡ cond (is_tight_as low w (unpacked low ds)) (Some ((unpacked low ds).values, r3)) None
unfolding column_parts_at
read_whole count octets r1 r2 r3 low w ds h a b one most d =
    let width : is_width w ≡ true = rw (lt-ltb 0 w (omega arith), le-leb w 128 most) refl in
    rw (a, b, width, d) (tested low w ds r3 h (is_tight (low, (w, ds))) refl)

-- what a column of form 1 is read as, by what was kept of its differences
pub read_varied : (count : ℕ) (octets r1 r2 r3 : List ℕ) (low : ℤ) (w : ℕ) (kept : Unpacked) → FitsSigned w128 low → signed_at w128 octets ≡ Some (low, r1) → number_at w8 r1 ≡ Some (w, r2) → 1 ≤ w → w ≤ 128 →
    mapped_at (unpacked low) (packed_at w count) r2 ≡ Some (kept, r3) → mapped_at values_of_parts (column_parts_at count) octets ≡ cond (is_tight_as low w kept) (Some (kept.values, r3)) None
read_varied count octets r1 r2 r3 low w kept h a b one most d =
    let p = bind_some (packed_at w count r2) (λ x. Some (unpacked low x.0, x.1)) (kept, r3) d in
    let made : Unpacked × List ℕ = (unpacked low p.0.0, p.0.1) in
    subst (λ (y : Unpacked × List ℕ). mapped_at values_of_parts (column_parts_at count) octets ≡ cond (is_tight_as low w y.0) (Some (y.0.values, y.1)) None) (some_is made (kept, r3) p.2)
    (read_whole count octets r1 r2 p.0.1 low w p.0.0 h a b one most p.1)

-- ---- the test of what was kept

pub high_of : (low : ℤ) (top : ℕ) → FitsSigned w128 low → top ≤ unsigned_abs (pos (2 ^ 127 - 1) -ℤ low) → (low +ℤ pos top) <ℤ pos (2 ^ 127)
high_of low top h le = let s = h.sfits in grind (arith, ints)

pub not_false : (b : Bool) → not b ≡ false → b ≡ true
not_false true e = refl
not_false false e = absurd cc

pub tight_as : (low : ℤ) (w : ℕ) (kept : Unpacked) → FitsSigned w128 low → kept.has_zero ≡ true → bit_len kept.top ≡ w → kept.top ≤ unsigned_abs (pos (2 ^ 127 - 1) -ℤ low) → is_tight_as low w kept ≡ true
tight_as low w kept h some width le = rw (some, eq-eqb (bit_len kept.top) w width, true_int_lt _ _ (high_of low kept.top h le)) refl
