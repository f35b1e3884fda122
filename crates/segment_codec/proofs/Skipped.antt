-- Passing over a column comes to where reading it ends.
use Rattle.std.proofs.Common.{◌≡◌, ◌∙◌, ℕ, zero, suc, ℤ, ◌+◌, ◌-◌, ◌*◌, ◌<◌, ◌≤◌, Bool, cond, ltb, eqb, List, [], ◌∷◌, ◌++◌, length, get_or, take, drop, append_assoc, arith, Option, Some, None, inl, inr, refl, sym, ap, subst}
use Rattle.std.specs.Prelude.{◌==◌, flat_map, option_map}
use Rattle.std.specs.List.{AllByRecursion, position}
use Rattle.std.proofs.lemmas.List.Quantifiers.{position-Some}
use Rattle.std.specs.Int.{Width, w8, w16, w128, byte_len, from_be_bytes, cast_signed}
use Rattle.octet_fields.specs.Reading.{counted_at, number_at, octets_at, signed_at, mapped_at, tested_at, both_at}
use Rattle.octet_fields.proofs.Exact.{bind_some, some_is, test_some, guard_some}
use Rattle.octet_fields.proofs.Numbers.{exact16, exact_counted16}
use Rattle.octet_fields.specs.Spelling.{counted, number}
use Rattle.segment_codec.specs.Bits.{octet_count, packed_at}
use Rattle.segment_codec.specs.KeyColumn.{key_column}
use Rattle.segment_codec.specs.OneColumn.{column_at_place, column_end, column_in, column_of, column_there, columns_end}
use Rattle.segment_codec.specs.RawColumn.{ColumnParts, IsRawColumn, column_parts_at, is_tight, is_width, raw_column, raw_column_at, same_at, values_of_parts}
use Rattle.segment_codec.specs.Segment.{IsSegment, row_count_at, segment_octets}
use Rattle.segment_codec.specs.declared.segment.Segment.{Segment}
use Rattle.segment_codec.proofs.Columns.{chosen, if_some, column_exact}
use Rattle.segment_codec.proofs.Keys.{in_order_rise}
use Rattle.segment_codec.proofs.Segments.{keys_exact, row_count_exact, true_rows}

number_passed : (w : Width) (octets : List ℕ) (x : ℕ × List ℕ) → number_at w octets ≡ Some x → octets_at (byte_len w) octets ≡ Some (take (byte_len w) octets, x.1)
unfolding number_at octets_at
number_passed w octets x e =
    let g = guard_some (ltb (length octets) (byte_len w)) (Some (from_be_bytes w (take (byte_len w) octets), drop (byte_len w) octets)) x e in
    let p = some_is (from_be_bytes w (take (byte_len w) octets), drop (byte_len w) octets) x g.1 in
    ap (λ (b : Bool). cond b None (Some (take (byte_len w) octets, drop (byte_len w) octets))) g.0 ∙ ap (λ (r : List ℕ). Some (take (byte_len w) octets, r)) (ap (λ (y : ℕ × List ℕ). y.1) p)

wide_passed : (octets : List ℕ) (x : ℤ × List ℕ) → signed_at w128 octets ≡ Some x → octets_at 16 octets ≡ Some (take 16 octets, x.1)
unfolding signed_at
wide_passed octets x e =
    let p = bind_some (number_at w128 octets) (λ a. Some (cast_signed w128 a.0, a.1)) x e in
    let q = some_is (cast_signed w128 p.0.0, p.0.1) x p.2 in
    number_passed w128 octets p.0 p.1 ∙ ap (λ (r : List ℕ). Some (take 16 octets, r)) (ap (λ (y : ℤ × List ℕ). y.1) q)

packed_passed : (w n : ℕ) (octets : List ℕ) (x : List ℕ × List ℕ) → packed_at w n octets ≡ Some x → octets_at (octet_count (w * n)) octets ≡ Some (take (octet_count (w * n)) octets, x.1)
unfolding packed_at octets_at
packed_passed w n octets x e =
    let k = octet_count (w * n) in
    let g = guard_some (ltb (length octets) k) _ x e in
    let h = test_some _ _ x g.1 in
    ap (λ (b : Bool). cond b None (Some (take k octets, drop k octets))) g.0 ∙ ap (λ (r : List ℕ). Some (take k octets, r)) (ap (λ (y : List ℕ × List ℕ). y.1) (some_is _ x h.1))

pub column_passed : (n : ℕ) (octets : List ℕ) (values : List ℤ) (rest : List ℕ) → raw_column_at n octets ≡ Some (values, rest) → column_end n octets ≡ Some rest
unfolding raw_column_at column_end same_at column_parts_at
column_passed n octets values rest e =
    let p = bind_some (number_at w8 octets) (λ form. cond (eqb form.0 0) (same_at n form.1) (cond (eqb form.0 1) (mapped_at values_of_parts (column_parts_at n) form.1) None)) (values, rest) e in
    elim (chosen (eqb p.0.0 0) (same_at n p.0.1) (cond (eqb p.0.0 1) (mapped_at values_of_parts (column_parts_at n) p.0.1) None) (values, rest) p.2) [
      | inl same ↦
          let a = bind_some (signed_at w128 p.0.1) _ (values, rest) same.1 in
          let end : a.0.1 ≡ rest = ap (λ (y : List ℤ × List ℕ). y.1) (some_is _ (values, rest) a.2) in
          rw (p.1, wide_passed p.0.1 a.0 a.1, same.0) (ap (λ (r : List ℕ). Some r) end)
      | inr other ↦
          let g = if_some (eqb p.0.0 1) (mapped_at values_of_parts (column_parts_at n) p.0.1) (values, rest) other.1 in
          let a = bind_some (column_parts_at n p.0.1) (λ a. Some (values_of_parts a.0, a.1)) (values, rest) g.1 in
          let t = bind_some (both_at (signed_at w128) (λ _. both_at (tested_at is_width (number_at w8)) (λ w. packed_at w n)) p.0.1) _ a.0 a.1 in
          let tight = test_some (is_tight t.0.0) (Some t.0) a.0 t.2 in
          let low = bind_some (signed_at w128 p.0.1) _ t.0 t.1 in
          let more = bind_some (both_at (tested_at is_width (number_at w8)) (λ w. packed_at w n) low.0.1) _ t.0 low.2 in
          let width = bind_some (tested_at is_width (number_at w8) low.0.1) _ more.0 more.1 in
          let num = bind_some (number_at w8 low.0.1) _ width.0 width.1 in
          let ok = test_some (is_width num.0.0) (Some num.0) width.0 num.2 in
          let number : number_at w8 low.0.1 ≡ Some width.0 = num.1 ∙ ok.1 in
          let pack = bind_some (packed_at width.0.0 n width.0.1) _ more.0 width.2 in
          let pieces = packed_passed width.0.0 n width.0.1 pack.0 pack.1 in
          let e1 : pack.0.1 ≡ more.0.1 = ap (λ (y : (ℕ × List ℕ) × List ℕ). y.1) (some_is _ more.0 pack.2) in
          let e2 : more.0.1 ≡ t.0.1 = ap (λ (y : ColumnParts × List ℕ). y.1) (some_is _ t.0 more.2) in
          let e3 : t.0.1 ≡ a.0.1 = ap (λ (y : ColumnParts × List ℕ). y.1) (some_is t.0 a.0 tight.1) in
          let e4 : a.0.1 ≡ rest = ap (λ (y : List ℤ × List ℕ). y.1) (some_is _ (values, rest) a.2) in
          rw (p.1, wide_passed p.0.1 low.0 low.1, other.0, number, pieces) (ap (λ (r : List ℕ). Some r) (e1 ∙ e2 ∙ e3 ∙ e4))
    ]

-- ---- a column of a segment

columns_passed : (n : ℕ) → 1 ≤ n → (j : ℕ) (cs : List (List ℤ)) (rest : List ℕ) → j < length cs → AllByRecursion (IsRawColumn n) cs →
    columns_end j n (flat_map raw_column cs ++ rest) ≡ Some (flat_map raw_column (drop j cs) ++ rest)
columns_passed n some zero cs rest lt all = refl
columns_passed n some (suc j) [] rest lt all = absurd (omega arith)
columns_passed n some (suc j) (c ∷ cs) rest lt all =
    let whole = append_assoc (raw_column c) (flat_map raw_column cs) rest in
    let read = (column_exact n some).again c (flat_map raw_column cs ++ rest) tt all.0 in
    ap (columns_end (suc j) n) whole ∙ rw (column_passed n (raw_column c ++ (flat_map raw_column cs ++ rest)) c (flat_map raw_column cs ++ rest) read) (columns_passed n some j cs rest (omega arith) all.1)

front_of : (n : ℕ) → 1 ≤ n → (j : ℕ) (cs : List (List ℤ)) (rest : List ℕ) → j < length cs → AllByRecursion (IsRawColumn n) cs → (after : List ℕ) × (raw_column_at n (flat_map raw_column (drop j cs) ++ rest) ≡ Some (get_or cs j [], after))
front_of n some j [] rest lt all = absurd (omega arith)
front_of n some zero (c ∷ cs) rest lt all =
    let whole = append_assoc (raw_column c) (flat_map raw_column cs) rest in
    (flat_map raw_column cs ++ rest, ap (raw_column_at n) whole ∙ (column_exact n some).again c (flat_map raw_column cs ++ rest) tt all.0)
front_of n some (suc j) (c ∷ cs) rest lt all = front_of n some j cs rest (omega arith) all.1

place_cases : (s : Segment) (rest : List ℕ) (o : Option ℕ) → ((j : ℕ) → o ≡ Some j → j < length s.columns) → IsSegment s →
    column_at_place (length s.keys) o (key_column s.keys ++ (flat_map raw_column s.columns ++ rest)) ≡ Some (option_map (column_there s) o)
place_cases s rest None below is = refl
place_cases s rest (Some j) below is =
    let n = length s.keys in
    let some = is.some_rows in
    let keys = (keys_exact n some).again s.keys (flat_map raw_column s.columns ++ rest) tt (refl, in_order_rise s.keys is.key_fields is.rising) in
    let passed = columns_passed n some j s.columns rest (below j refl) is.columns in
    let column = front_of n some j s.columns rest (below j refl) is.columns in
    rw (keys, passed, column.1) refl

pub column_of_segment : (q : ℕ) (s : Segment) (rest : List ℕ) → IsSegment s → column_of q (segment_octets s ++ rest) ≡ Some (column_in q s)
unfolding column_of segment_octets
column_of_segment q s rest is =
    let ps = s.parameters in
    let n = length s.keys in
    let few = is.few_rows in
    let tail = key_column s.keys ++ flat_map raw_column s.columns in
    let a2 = append_assoc (key_column s.keys) (flat_map raw_column s.columns) rest in
    let a1 = append_assoc (number w16 n) tail rest in
    let a0 = append_assoc (counted w16 (number w16) ps) (number w16 n ++ tail) rest in
    let parameters = (exact_counted16 exact16).again ps ((number w16 n ++ tail) ++ rest) tt (is.few_parameters, is.parameters) in
    let rows = row_count_exact.again n (tail ++ rest) tt (omega arith, true_rows n is.some_rows is.few_rows) in
    let below : (j : ℕ) → position (λ p. p == q) ps ≡ Some j → j < length s.columns = λ j e. subst (λ (k : ℕ). j < k) (sym is.column_count) (position-Some (λ p. p == q) ps j 0 e).0 in
    rw (a0, parameters, a1, rows, a2) (place_cases s rest (position (λ p. p == q) ps) below is)

-- the parameters of a segment are read alone
pub parameters_of_segment : (s : Segment) (rest : List ℕ) → IsSegment s → (behind : List ℕ) × (counted_at w16 (number_at w16) (segment_octets s ++ rest) ≡ Some (s.parameters, behind))
unfolding segment_octets
parameters_of_segment s rest is =
    let ps = s.parameters in
    let tail = number w16 (length s.keys) ++ (key_column s.keys ++ flat_map raw_column s.columns) in
    (tail ++ rest, ap (counted_at w16 (number_at w16)) (append_assoc (counted w16 (number w16) ps) tail rest) ∙ (exact_counted16 exact16).again ps (tail ++ rest) tt (is.few_parameters, is.parameters))

-- one column more
pub skip_more : (n rows i : ℕ) (rest after : List ℕ) (total : Option (List ℕ)) → i < n → column_end rows rest ≡ Some after → columns_end (n - i) rows rest ≡ total → columns_end (n - (i + 1)) rows after ≡ total
skip_more n rows i rest after total lt h so_far =
    let one : n - i ≡ suc (n - (i + 1)) = omega arith in
    let here : columns_end (n - i) rows rest ≡ columns_end (n - (i + 1)) rows after = rw (one, h) refl in
    sym here ∙ so_far

-- where the parameters and the number of rows were read, the column stands at the parameter's place
pub placed : (parameter : ℕ) (octets behind rest parameters : List ℕ) (rows : ℕ) (place : Option ℕ) →
    counted_at w16 (number_at w16) octets ≡ Some (parameters, behind) → row_count_at behind ≡ Some (rows, rest) → place ≡ position (λ p. p == parameter) parameters →
    column_of parameter octets ≡ column_at_place rows place rest
unfolding column_of
placed parameter octets behind rest parameters rows place a b is = rw (a, b) (ap (λ (o : Option ℕ). column_at_place rows o rest) (sym is))
