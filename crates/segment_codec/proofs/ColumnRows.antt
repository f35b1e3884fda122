-- Some rows of a raw column.
use Rattle.std.proofs.Common.{◌≡◌, ◌∙◌, ℕ, zero, suc, ℤ, pos, ◌+◌, ◌*◌, ◌/◌, ◌%◌, ◌^◌, ◌≤◌, inl, inr, true, cond, eqb, ltb, length, ◌&&◌, List, [], ◌∷◌, Some, None, FitsSigned, refl, sym, ap, arith}
use Rattle.std.specs.Prelude.{◌+ℤ◌, int_lt, map, replicate, take, drop}
use Rattle.std.specs.Int.{w8, w128}
use Rattle.std.specs.List.{list_any}
use Rattle.std.proofs.lemmas.Bool.{eqb-true}
use Rattle.std.proofs.lemmas.List.{drop-map, length-map, length-replicate}
use Rattle.octet_fields.specs.Reading.{both_at, mapped_at, number_at, signed_at, tested_at}
use Rattle.octet_fields.proofs.Exact.{bind_some, guard_some, some_is, test_some}
use Rattle.segment_codec.specs.Bits.{digits_of, number_from_digits, octet_count, packed_at, spare_bits}
use Rattle.segment_codec.specs.RawColumn.{ColumnParts, bit_len, column_parts_at, greatest, is_tight, is_width, raw_column_at, same_at, value_above, values_of_parts}
use Rattle.segment_codec.proofs.Numbers.{length-digits_of}
use Rattle.segment_codec.proofs.Columns.{and_true, chosen, fold_max_from, if_some, int_lt_true, values_same}

-- ---- lists

take_map : {X Y : Type 0} (f : X → Y) (n : ℕ) (xs : List X) → take n (map f xs) ≡ map f (take n xs)
take_map f zero xs = refl
take_map f (suc n) [] = refl
take_map f (suc n) (x ∷ xs) = ap (λ (ys : List _). f x ∷ ys) (take_map f n xs)

part_map : {X Y : Type 0} (f : X → Y) (first count : ℕ) (xs : List X) → take count (drop first (map f xs)) ≡ map f (take count (drop first xs))
part_map f first count xs = ap (take count) (drop-map f first xs) ∙ take_map f count (drop first xs)

take_same : (v : ℤ) (count n : ℕ) → count ≤ n → take count (replicate n v) ≡ replicate count v
take_same v zero n le = refl
take_same v (suc count) zero le = absurd (omega arith)
take_same v (suc count) (suc n) le = ap (λ (vs : List ℤ). v ∷ vs) (take_same v count n (omega arith))

part_same : (v : ℤ) (first count n : ℕ) → first + count ≤ n → take count (drop first (replicate n v)) ≡ replicate count v
part_same v zero count n le = take_same v count n (omega arith)
part_same v (suc first) count zero le = absurd (omega arith)
part_same v (suc first) count (suc n) le = part_same v first count n (omega arith)

-- ---- the two forms

-- where all values are one, so are those of some rows
pub same_rows : (n first count : ℕ) (octets r1 r2 values_rest : List ℕ) (values : List ℤ) (low : ℤ) → first + count ≤ n → number_at w8 octets ≡ Some (0, r1) → signed_at w128 r1 ≡ Some (low, r2) →
    raw_column_at n octets ≡ Some (values, values_rest) → replicate count low ≡ take count (drop first values)
unfolding raw_column_at same_at
same_rows n first count octets r1 r2 values_rest values low le form value e =
    let found : same_at n r1 ≡ Some (values, values_rest) = rw form at e in
    let a = bind_some (signed_at w128 r1) (λ a. Some (replicate n a.0, a.1)) (values, values_rest) found in
    let same : low ≡ a.0.0 = ap (λ (y : ℤ × List ℕ). y.0) (some_is (low, r2) a.0 (sym value ∙ a.1)) in
    let made : List ℤ × List ℕ = (replicate n a.0.0, a.0.1) in
    let all : replicate n low ≡ values = ap (replicate n) same ∙ ap (λ (y : List ℤ × List ℕ). y.0) (some_is made (values, values_rest) a.2) in
    sym (part_same low first count n le) ∙ ap (λ (vs : List ℤ). take count (drop first vs)) all

-- where they differ, the numbers behind the least and the width are how far they lie above it
pub varied_rows : (n : ℕ) (octets r1 r2 r3 after : List ℕ) (values : List ℤ) (form : ℕ) (low : ℤ) (w : ℕ) → FitsSigned w128 low → (form ≡ 0 → ⊥) → number_at w8 octets ≡ Some (form, r1) → signed_at w128 r1 ≡ Some (low, r2) → number_at w8 r2 ≡ Some (w, r3) →
    raw_column_at n octets ≡ Some (values, after) → (numbers : List ℕ) × (packed_at w n r3 ≡ Some (numbers, after)) × (values ≡ map (value_above low) numbers)
unfolding raw_column_at column_parts_at
varied_rows n octets r1 r2 r3 after values form low w fits other read_form read_low read_width e =
    let p = bind_some (number_at w8 octets) (λ f. cond (eqb f.0 0) (same_at n f.1) (cond (eqb f.0 1) (mapped_at values_of_parts (column_parts_at n) f.1) None)) (values, after) e in
    let here : ◌≡◌ {A = ℕ × List ℕ} (form, r1) p.0 = some_is (form, r1) p.0 (sym read_form ∙ p.1) in
    elim (chosen (eqb p.0.0 0) (same_at n p.0.1) (cond (eqb p.0.0 1) (mapped_at values_of_parts (column_parts_at n) p.0.1) None) (values, after) p.2) [
      | inl zero_form ↦ absurd (other (ap (λ (y : ℕ × List ℕ). y.0) here ∙ eqb-true p.0.0 0 zero_form.0))
      | inr rest ↦
          let g = if_some (eqb p.0.0 1) (mapped_at values_of_parts (column_parts_at n) p.0.1) (values, after) rest.1 in
          let a = bind_some (column_parts_at n p.0.1) (λ a. Some (values_of_parts a.0, a.1)) (values, after) g.1 in
          let t = bind_some (both_at (signed_at w128) (λ _. both_at (tested_at is_width (number_at w8)) (λ k. packed_at k n)) p.0.1) _ a.0 a.1 in
          let tight = test_some (is_tight t.0.0) (Some t.0) a.0 t.2 in
          let lows = bind_some (signed_at w128 p.0.1) _ t.0 t.1 in
          let more = bind_some (both_at (tested_at is_width (number_at w8)) (λ k. packed_at k n) lows.0.1) _ t.0 lows.2 in
          let width = bind_some (tested_at is_width (number_at w8) lows.0.1) _ more.0 more.1 in
          let num = bind_some (number_at w8 lows.0.1) _ width.0 width.1 in
          let ok = test_some (is_width num.0.0) (Some num.0) width.0 num.2 in
          let number : number_at w8 lows.0.1 ≡ Some width.0 = num.1 ∙ ok.1 in
          let pack = bind_some (packed_at width.0.0 n width.0.1) _ more.0 width.2 in
          -- the readings are those of the code
          let low_is : ◌≡◌ {A = ℤ × List ℕ} (low, r2) lows.0 = some_is (low, r2) lows.0 (sym read_low ∙ ap (signed_at w128) (ap (λ (y : ℕ × List ℕ). y.1) here) ∙ lows.1) in
          let width_is : ◌≡◌ {A = ℕ × List ℕ} (w, r3) width.0 = some_is (w, r3) width.0 (sym read_width ∙ ap (number_at w8) (ap (λ (y : ℤ × List ℕ). y.1) low_is) ∙ number) in
          let w_is : w ≡ width.0.0 = ap (λ (y : ℕ × List ℕ). y.0) width_is in
          let r3_is : r3 ≡ width.0.1 = ap (λ (y : ℕ × List ℕ). y.1) width_is in
          let l_is : low ≡ lows.0.0 = ap (λ (y : ℤ × List ℕ). y.0) low_is in
          -- and what they give is the column
          let made_more : (ℕ × List ℕ) × List ℕ = ((width.0.0, pack.0.0), pack.0.1) in
          let made_whole : ColumnParts × List ℕ = ((lows.0.0, more.0.0), more.0.1) in
          let e1 = some_is made_more more.0 pack.2 in
          let e2 = some_is made_whole t.0 more.2 in
          let e3 = some_is t.0 a.0 tight.1 in
          let made_values : List ℤ × List ℕ = (values_of_parts a.0.0, a.0.1) in
          let e4 = some_is made_values (values, after) a.2 in
          let numbers = pack.0.0 in
          let parts : ◌≡◌ {A = ColumnParts × List ℕ} ((low, (width.0.0, numbers)), pack.0.1) a.0 =
          ap (λ (z : ℤ). let y : ColumnParts × List ℕ = ((z, (width.0.0, numbers)), pack.0.1) in y) l_is ∙ ap (λ (y : (ℕ × List ℕ) × List ℕ). let z : ColumnParts × List ℕ = ((lows.0.0, y.0), y.1) in z) e1 ∙ e2 ∙ e3 in
          let end : pack.0.1 ≡ after = ap (λ (y : ColumnParts × List ℕ). y.1) parts ∙ ap (λ (y : List ℤ × List ℕ). y.1) e4 in
          let tight_too : is_tight (low, (width.0.0, numbers)) ≡ true = ap (λ (y : ColumnParts × List ℕ). is_tight y.0) (parts ∙ sym e3) ∙ tight.0 in
          let b = and_true (list_any (λ d. eqb d 0) numbers) (eqb (bit_len (greatest numbers)) width.0.0 && int_lt (low +ℤ pos (greatest numbers)) (pos (2 ^ 127))) tight_too in
          let h = and_true (eqb (bit_len (greatest numbers)) width.0.0) (int_lt (low +ℤ pos (greatest numbers)) (pos (2 ^ 127))) b.1 in
          let above = values_same low (greatest numbers) numbers fits (int_lt_true _ _ h.1) (fold_max_from 0 numbers).1 in (
            numbers,
            ap (λ (k : ℕ). packed_at k n r3) w_is ∙ ap (packed_at width.0.0 n) r3_is ∙ pack.1 ∙ ap (λ (r : List ℕ). Some (numbers, r)) end,
            sym (above ∙ ap (λ (y : ColumnParts × List ℕ). values_of_parts y.0) parts ∙ ap (λ (y : List ℤ × List ℕ). y.0) e4),
          )
    ]

-- so the numbers of some rows are how far their values lie above it
pub part_above : (low : ℤ) (first count : ℕ) (values : List ℤ) (numbers : List ℕ) → values ≡ map (value_above low) numbers → map (value_above low) (take count (drop first numbers)) ≡ take count (drop first values)
part_above low first count values numbers is = sym (part_map (value_above low) first count numbers) ∙ ap (λ (vs : List ℤ). take count (drop first vs)) (sym is)

-- ---- a column has a value for each row

packed_len : (w n : ℕ) (octets : List ℕ) (x : List ℕ × List ℕ) → packed_at w n octets ≡ Some x → length x.0 ≡ n
unfolding packed_at
packed_len w n octets x e =
    let k = octet_count (w * n) in
    let number = number_from_digits 8 (take k octets) in
    let unit = 2 ^ spare_bits (w * n) in
    let found : List ℕ × List ℕ = (digits_of w n (number / unit), drop k octets) in
    let g = guard_some (ltb (length octets) k) (cond (eqb (number % unit) 0) (Some found) None) x e in
    let h = if_some (eqb (number % unit) 0) (Some found) x g.1 in
    ap (λ (y : List ℕ × List ℕ). length y.0) (sym (some_is found x h.1)) ∙ length-digits_of w n (number / unit)

parts_len : (n : ℕ) (octets : List ℕ) (x : ColumnParts × List ℕ) → column_parts_at n octets ≡ Some x → length x.0.1.1 ≡ n
unfolding column_parts_at
parts_len n octets x e =
    let t = bind_some (both_at (signed_at w128) (λ _. both_at (tested_at is_width (number_at w8)) (λ k. packed_at k n)) octets) _ x e in
    let tight = test_some (is_tight t.0.0) (Some t.0) x t.2 in
    let lows = bind_some (signed_at w128 octets) _ t.0 t.1 in
    let more = bind_some (both_at (tested_at is_width (number_at w8)) (λ k. packed_at k n) lows.0.1) _ t.0 lows.2 in
    let width = bind_some (tested_at is_width (number_at w8) lows.0.1) _ more.0 more.1 in
    let pack = bind_some (packed_at width.0.0 n width.0.1) _ more.0 width.2 in
    let made_more : (ℕ × List ℕ) × List ℕ = ((width.0.0, pack.0.0), pack.0.1) in
    let made_whole : ColumnParts × List ℕ = ((lows.0.0, more.0.0), more.0.1) in
    let e1 = some_is made_more more.0 pack.2 in
    let e2 = some_is made_whole t.0 more.2 in
    let e3 = some_is t.0 x tight.1 in
    sym (ap (λ (y : (ℕ × List ℕ) × List ℕ). length y.0.1) e1 ∙ ap (λ (y : ColumnParts × List ℕ). length y.0.1.1) (e2 ∙ e3)) ∙ packed_len width.0.0 n width.0.1 pack.0 pack.1

pub column_len : (n : ℕ) (octets : List ℕ) (x : List ℤ × List ℕ) → raw_column_at n octets ≡ Some x → length x.0 ≡ n
unfolding raw_column_at same_at
column_len n octets x e =
    let p = bind_some (number_at w8 octets) (λ f. cond (eqb f.0 0) (same_at n f.1) (cond (eqb f.0 1) (mapped_at values_of_parts (column_parts_at n) f.1) None)) x e in
    elim (chosen (eqb p.0.0 0) (same_at n p.0.1) (cond (eqb p.0.0 1) (mapped_at values_of_parts (column_parts_at n) p.0.1) None) x p.2) [
      | inl zero_form ↦
          let a = bind_some (signed_at w128 p.0.1) (λ a. Some (replicate n a.0, a.1)) x zero_form.1 in
          let made : List ℤ × List ℕ = (replicate n a.0.0, a.0.1) in
          ap (λ (y : List ℤ × List ℕ). length y.0) (sym (some_is made x a.2)) ∙ length-replicate n a.0.0
      | inr rest ↦
          let g = if_some (eqb p.0.0 1) (mapped_at values_of_parts (column_parts_at n) p.0.1) x rest.1 in
          let a = bind_some (column_parts_at n p.0.1) (λ a. Some (values_of_parts a.0, a.1)) x g.1 in
          let made : List ℤ × List ℕ = (values_of_parts a.0.0, a.0.1) in
          ap (λ (y : List ℤ × List ℕ). length y.0) (sym (some_is made x a.2)) ∙ length-map a.0.0.1.1 (λ d. a.0.0.0 +ℤ pos d) ∙ parts_len n p.0.1 a.0 a.1
    ]
