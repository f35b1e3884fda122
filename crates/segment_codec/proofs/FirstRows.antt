-- The first so many rows of a column in a direction.
use Rattle.std.proofs.Common.{◌≡◌, ◌∙◌, ℕ, zero, suc, ℤ, ◌+◌, ◌-◌, ◌≤◌, List, [], ◌∷◌, ◌++◌, length, take, take_all, drop, reverse, Option, Some, None, refl, sym, ap, arith}
use Rattle.std.specs.Prelude.{filter, min}
use Rattle.std.proofs.lemmas.List.{drop-take, length-drop, length-reverse, length-take-le, reverse-append, reverse-reverse, take-append-drop, take_at, take_min}
use Rattle.arch_types.specs.declared.direction.Direction.{Direction}
use Rattle.arch_types.specs.declared.direction.Direction.TheVariants.{Ascending, Descending}
use Rattle.arch_types.specs.declared.key.Key.{Key}
use Rattle.segment_codec.specs.OneColumn.{column_of_parts}
use Rattle.segment_codec.specs.RangeColumn.{IsSpanOf, asked_rows, count_in, first_in, is_key_in_range, keys_before, start_in}
use Rattle.segment_codec.specs.KeyColumn.{keys_at}
use Rattle.segment_codec.specs.RawColumn.{raw_column_at}
use Rattle.segment_codec.specs.declared.one_column.ParameterColumn.{ParameterColumn}
use Rattle.segment_codec.specs.declared.range_column.KeysInRange.{KeysInRange}
use Rattle.segment_codec.proofs.ColumnRows.{column_len}
use Rattle.segment_codec.proofs.Outlines.{keys_len}
use Rattle.segment_codec.proofs.RangeSteps.{span_within}

module _ {X : Type 0} where
  -- ---- parts of lists

  take_twice : (c m : ℕ) (xs : List X) → c ≤ m → take c (take m xs) ≡ take c xs
  take_twice zero m xs le = refl
  take_twice (suc c) zero xs le = absurd (omega (arith, le))
  take_twice (suc c) (suc m) [] le = refl
  take_twice (suc c) (suc m) (x ∷ xs) le = ap (λ (ys : List X). x ∷ ys) (take_twice c m xs (omega (arith, le)))

  none_left : (n : ℕ) → drop {A = X} n [] ≡ []
  none_left zero = refl
  none_left (suc n) = refl

  drop_twice : (a b : ℕ) (xs : List X) → drop a (drop b xs) ≡ drop (b + a) xs
  drop_twice a zero xs = ap (λ (n : ℕ). drop n xs) (none a)
    where
      none : (a : ℕ) → a ≡ 0 + a
      none a = omega arith
  drop_twice a (suc b) [] = none_left a ∙ sym (none_left (suc b + a))
  drop_twice a (suc b) (x ∷ xs) = drop_twice a b xs ∙ ap (λ (n : ℕ). drop n (x ∷ xs)) (more a b)
    where
      more : (a b : ℕ) → suc (b + a) ≡ suc b + a
      more a b = omega arith

  -- a part of a part
  part_of_part : (first count before n : ℕ) (xs : List X) → first + count ≤ n → take count (drop first (take n (drop before xs))) ≡ take count (drop (before + first) xs)
  part_of_part first count before n xs le =
      let m = n - first in
      let is : n ≡ first + m = omega arith in
      ap (λ (k : ℕ). take count (drop first (take k (drop before xs)))) is ∙ ap (take count) (drop-take first m (drop before xs)) ∙ take_twice count m (drop first (drop before xs)) (omega arith) ∙ ap (take count) (drop_twice first before xs)

  -- ---- the first in a direction

  last_taken : (m : ℕ) (xs : List X) → m ≤ length xs → take m (drop (length xs - m) xs) ≡ reverse (take m (reverse xs))
  last_taken m xs le =
      let k = length xs - m in
      let front = take k xs in
      let back = drop k xs in
      let long : length back ≡ m = omega (arith, length-drop k xs) in
      let turned : reverse xs ≡ reverse back ++ reverse front = ap reverse (sym (take-append-drop k xs)) ∙ reverse-append front back in
      let taken : take m (reverse xs) ≡ reverse back = ap (take m) turned ∙ take_at (reverse back) (reverse front) m (length-reverse back ∙ long) in
      take_all m back (omega (arith, long)) ∙ sym (reverse-reverse back) ∙ ap reverse (sym taken)

  first_up : (limit : Option ℕ) (xs : List X) → take (count_in limit (length xs)) (drop (start_in Ascending (length xs) (count_in limit (length xs))) xs) ≡ first_in Ascending limit xs
  first_up None xs = take_all (length xs) xs (omega arith)
  first_up (Some n) xs = take_min n xs

  first_down : (limit : Option ℕ) (xs : List X) → take (count_in limit (length xs)) (drop (start_in Descending (length xs) (count_in limit (length xs))) xs) ≡ first_in Descending limit xs
  first_down None xs =
      let none : length xs - length xs ≡ 0 = omega arith in
      ap (λ (k : ℕ). take (length xs) (drop k xs)) none ∙ take_all (length xs) xs (omega arith) ∙ sym (reverse-reverse xs)
  first_down (Some n) xs =
      let m = min n (length xs) in
      last_taken m xs (omega arith) ∙ ap (λ (k : ℕ). reverse (take (min n k) (reverse xs))) (sym (length-reverse xs)) ∙ ap reverse (take_min n (reverse xs))

  by_direction : (direction : Direction) (limit : Option ℕ) (xs : List X) → take (count_in limit (length xs)) (drop (start_in direction (length xs) (count_in limit (length xs))) xs) ≡ first_in direction limit xs
  by_direction Ascending limit xs = first_up limit xs
  by_direction Descending limit xs = first_down limit xs

  pub first_taken : (direction : Direction) (limit : Option ℕ) (xs : List X) (first count : ℕ) → count ≡ count_in limit (length xs) → first ≡ start_in direction (length xs) count → take count (drop first xs) ≡ first_in direction limit xs
  first_taken direction limit xs first count many at =
      ap (λ (k : ℕ). take count (drop k xs)) at ∙ ap (λ (c : ℕ). take c (drop (start_in direction (length xs) c) xs)) many ∙ by_direction direction limit xs

-- ---- of so many rows

pub count_within : (limit : Option ℕ) (rows : ℕ) → count_in limit rows ≤ rows
count_within None rows = omega arith
count_within (Some n) rows = omega arith

pub start_within : (direction : Direction) (rows count : ℕ) → count ≤ rows → start_in direction rows count + count ≤ rows
start_within Ascending rows count le = omega (arith, le)
start_within Descending rows count le = omega (arith, le)

-- ---- the rows of a column

-- beside the keys of a span stand values
pub beside_span : (rows : ℕ) (low high : ℤ) (octets a b d : List ℕ) (column : ParameterColumn) (span : KeysInRange) → IsSpanOf low high column.keys span → keys_at rows octets ≡ Some (column.keys, a) → raw_column_at rows b ≡ Some (column.values, d) →
    length span.keys ≤ length (drop span.before column.values)
beside_span rows low high octets a b d column span is keys values =
    let long : length column.values ≡ rows = column_len rows b (column.values, d) values in
    let also : length column.keys ≡ rows = keys_len rows octets (column.keys, a) keys in
    omega (arith, long, also, length-drop span.before column.values, span_within low high column.keys span is)

-- the keys that are asked of a span, and the values beside them, are the rows that are asked
pub asked_are : (low high : ℤ) (direction : Direction) (limit : Option ℕ) (column found : ParameterColumn) (span : KeysInRange) (first count : ℕ) → IsSpanOf low high column.keys span → first + count ≤ length span.keys → length span.keys ≤ length (drop span.before column.values) →
    count ≡ count_in limit (length span.keys) → first ≡ start_in direction (length span.keys) count → found.keys ≡ take count (drop first span.keys) → found.values ≡ take count (drop (span.before + first) column.values) → found ≡ asked_rows low high direction limit column
asked_are low high direction limit column found span first count is within room many at keys values =
    let all = column.keys in
    let inside = filter (is_key_in_range low high) all in
    let n = length span.keys in
    let beside : List ℤ = take n (drop span.before column.values) in
    let long : length beside ≡ n = length-take-le n (drop span.before column.values) room in
    let own_keys : found.keys ≡ first_in direction limit inside = keys ∙ first_taken direction limit span.keys first count many at ∙ ap (first_in direction limit) is.inside in
    let own_values : found.values ≡ first_in direction limit beside =
    values ∙ sym (part_of_part first count span.before n column.values within)
    ∙ first_taken direction limit beside first count (many ∙ ap (count_in limit) (sym long)) (at ∙ ap (λ (k : ℕ). start_in direction k count) (sym long)) in
    let beside_is : beside ≡ take (length inside) (drop (keys_before low all) column.values) =
    ap (λ (k : ℕ). take k (drop span.before column.values)) (ap length is.inside) ∙ ap (λ (k : ℕ). take (length inside) (drop k column.values)) is.before in
    ap (λ (ks : List Key). column_of_parts ks found.values) own_keys ∙ ap (λ (vs : List ℤ). column_of_parts (first_in direction limit inside) vs) (own_values ∙ ap (first_in direction limit) beside_is)
