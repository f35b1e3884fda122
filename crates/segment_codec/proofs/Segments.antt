-- A segment is read exactly, from its parts.
use Rattle.std.proofs.Common.{◌≡◌, ℕ, zero, suc, pos, ◌^◌, ◌<◌, ◌≤◌, true, List, [], ◌∷◌, ◌++◌, length, None, refl, sym, ap, subst, arith}
use Rattle.std.specs.List.{flat_map, AllByRecursion}
use Rattle.std.specs.Int.{w16}
use Rattle.octet_fields.specs.Exact.{IsExact}
use Rattle.octet_fields.specs.Reading.{number_at, counted_at, both_at, times_at}
use Rattle.octet_fields.specs.Spelling.{counted, number}
use Rattle.octet_fields.proofs.Exact.{IsExact-both, IsExact-tested, IsExact-times, one_form}
use Rattle.octet_fields.proofs.Numbers.{exact16, exact32, exact_counted16, exact_i64}
use Rattle.arch_types.specs.declared.key.Key.{Key}
use Rattle.segment_codec.specs.declared.segment.Segment.{Segment}
use Rattle.segment_codec.specs.KeyColumn.{IsKey, first_key, first_key_at, key_column, key_gaps, key_of_fields, keys_at}
use Rattle.segment_codec.specs.RawColumn.{IsRawColumn, raw_column, raw_column_at}
use Rattle.segment_codec.specs.Segment.{IsSegment, SegmentParts, are_parameters, is_row_count, parameters_at, row_count_at, segment_at, segment_octets, segment_of_parts}
use Rattle.segment_codec.proofs.Columns.{column_exact}
use Rattle.segment_codec.proofs.Distinct.{parameters_true, true_parameters}
use Rattle.segment_codec.proofs.Keys.{AreKeysAfter, KeysRise, in_order_rise, keys_after_exact, rise_in_order}
use Rattle.segment_codec.proofs.Leaves.{mapped_as}

-- ---- the key column

pub first_exact : IsExact IsKey first_key first_key_at
unfolding first_key_at
first_exact = mapped_as IsKey first_key key_of_fields (λ k. (k.time, k.seq)) (IsExact-both exact_i64 (λ _ _. exact32)) (λ p fits. (record { time = fits.0; seq = fits.1 }, refl)) (λ k fits. ((fits.time, fits.seq), refl, refl))

parted : List Key → Key × List Key
parted [] = (record { time = pos 0; seq = 0 }, [])
parted (k ∷ ks) = (k, ks)

keys_there : (n : ℕ) (p : Key × List Key) → IsKey p.0 × ((length p.1 ≡ n) × AreKeysAfter p.0 p.1) → ((length (p.0 ∷ p.1) ≡ suc n) × KeysRise (p.0 ∷ p.1)) × (first_key p.0 ++ key_gaps p.0 p.1 ≡ key_column (p.0 ∷ p.1))
keys_there n p h = ((ap suc h.1.0, (h.0, h.1.1)), refl)

keys_here : (n : ℕ) (ks : List Key) → (length ks ≡ suc n) × KeysRise ks → (IsKey (parted ks).0 × ((length (parted ks).1 ≡ n) × AreKeysAfter (parted ks).0 (parted ks).1)) × ((parted ks).0 ∷ (parted ks).1 ≡ ks) × (key_column ks ≡ first_key (parted ks).0 ++ key_gaps (parted ks).0 (parted ks).1)
unfolding parted
keys_here n [] h = absurd (omega arith)
keys_here n (k ∷ ks) h = ((h.1.0, ((let e = h.0 in omega arith), h.1.1)), refl, refl)

pub keys_exact : (n : ℕ) → 1 ≤ n → IsExact (λ (ks : List Key). (length ks ≡ n) × KeysRise ks) key_column (keys_at n)
unfolding keys_at
keys_exact zero h = absurd (omega arith)
keys_exact (suc n) h = mapped_as (λ (ks : List Key). (length ks ≡ suc n) × KeysRise ks) key_column (λ (p : Key × List Key). p.0 ∷ p.1) parted (IsExact-both first_exact (λ k is. keys_after_exact n k is)) (keys_there n) (keys_here n)

-- ---- the other parts

rows_true : (n : ℕ) → is_row_count n ≡ true → (1 ≤ n) × (n ≤ 4096)
rows_true n h = grind arith

pub true_rows : (n : ℕ) → 1 ≤ n → n ≤ 4096 → is_row_count n ≡ true
true_rows n h k = grind arith

parameters_exact : IsExact (λ (ps : List ℕ). ((length ps < 2 ^ 16) × AllByRecursion (λ n. n < 2 ^ 16) ps) × (are_parameters ps ≡ true)) (counted w16 (number w16)) parameters_at
unfolding parameters_at
parameters_exact = IsExact-tested (exact_counted16 exact16) are_parameters

pub row_count_exact : IsExact (λ n. (n < 2 ^ 16) × (is_row_count n ≡ true)) (number w16) row_count_at
unfolding row_count_at
row_count_exact = IsExact-tested exact16 is_row_count

-- ---- the segment

abbrev Fits : SegmentParts → Type 0
Fits p = (((length p.0 < 2 ^ 16) × AllByRecursion (λ n. n < 2 ^ 16) p.0) × (are_parameters p.0 ≡ true)) × (((p.1.0 < 2 ^ 16) × (is_row_count p.1.0 ≡ true)) × (((length p.1.1.0 ≡ p.1.0) × KeysRise p.1.1.0) × ((length p.1.1.1 ≡ length p.0) × AllByRecursion (IsRawColumn p.1.0) p.1.1.1)))

abbrev spelled : SegmentParts → List ℕ
spelled p = counted w16 (number w16) p.0 ++ (number w16 p.1.0 ++ (key_column p.1.1.0 ++ flat_map raw_column p.1.1.1))

parts_exact : IsExact Fits spelled (both_at parameters_at (λ parameters. both_at row_count_at (λ rows. both_at (keys_at rows) (λ _. times_at (raw_column_at rows) (length parameters)))))
parts_exact = IsExact-both parameters_exact (λ ps _. IsExact-both row_count_exact (λ m rows. IsExact-both (keys_exact m (rows_true m rows.1).0) (λ _ _. IsExact-times (column_exact m (rows_true m rows.1).0) (length ps))))

back : Segment → SegmentParts
back s = (s.parameters, (length s.keys, (s.keys, s.columns)))

there : (p : SegmentParts) → Fits p → IsSegment (segment_of_parts p) × (spelled p ≡ segment_octets (segment_of_parts p))
unfolding segment_octets
there p h =
    let rows = rows_true p.1.0 h.1.0.1 in
    let parameters = parameters_true p.0 h.0.1 in
    let key_count = h.1.1.0.0 in
    let keys = rise_in_order p.1.1.0 h.1.1.0.1 in (
      record {
        some_parameters = parameters.0;
        few_parameters = h.0.0.0;
        parameters = h.0.0.1;
        distinct = parameters.1;
        some_rows = omega (arith, key_count);
        few_rows = omega (arith, key_count);
        key_fields = keys.0;
        rising = keys.1;
        column_count = h.1.1.1.0;
        columns = subst (λ (k : ℕ). AllByRecursion (IsRawColumn k) p.1.1.1) (sym key_count) h.1.1.1.1;
      },
      ap (λ (k : ℕ). counted w16 (number w16) p.0 ++ (number w16 k ++ (key_column p.1.1.0 ++ flat_map raw_column p.1.1.1))) (sym key_count),
    )

here : (s : Segment) → IsSegment s → Fits (back s) × (segment_of_parts (back s) ≡ s) × (segment_octets s ≡ spelled (back s))
unfolding back segment_octets
here s h =
    let some_rows = h.some_rows in
    let few_rows = h.few_rows in
    ((((h.few_parameters, h.parameters), true_parameters s.parameters h.some_parameters h.distinct), ((omega arith, true_rows (length s.keys) some_rows few_rows), ((refl, in_order_rise s.keys h.key_fields h.rising), (h.column_count, h.columns)))), refl, refl)

pub segment_exact : IsExact IsSegment segment_octets segment_at
unfolding segment_at
segment_exact = mapped_as IsSegment segment_octets segment_of_parts back parts_exact there here

-- no spelling begins another
pub one_segment : (a b : Segment) (x y : List ℕ) → IsSegment a → IsSegment b → segment_octets a ++ x ≡ segment_octets b ++ y → (a ≡ b) × (x ≡ y)
one_segment = one_form segment_exact

-- no octets at all are no segment
pub none_at_end : segment_at [] ≡ None
unfolding segment_at parameters_at counted_at number_at
none_at_end = refl
