-- The segments of one group are those of a set: its run rises.
use Rattle.std.proofs.Common.{◌≡◌, ◌∙◌, ℕ, zero, suc, ◌+◌, ◌<◌, ◌≤◌, List, [], ◌∷◌, ◌++◌, length, map, get_or, append-nil, length-append, Some, refl, sym, ap, subst, arith}
use Rattle.std.specs.Prelude.{flat_map}
use Rattle.std.specs.List.{AllByRecursion}
use Rattle.std.specs.List.Sorted.{IsStrictlySortedBy}
use Rattle.std.proofs.lemmas.List.{length-map, map-append}
use Rattle.std.proofs.lemmas.List.Sorted.{IsPermutation-refl}
use Rattle.arch_types.specs.declared.key.Key.{Key}
use Rattle.arch_types.specs.Order.{key_cmp}
use Rattle.segment_codec.specs.Segment.{IsSegment}
use Rattle.segment_codec.specs.declared.segment.Segment.{Segment}
use Rattle.param_segments.specs.declared.runs.Runs.{Runs}
use Rattle.param_segments.specs.RowPlaces.{RowPlace, places_from, places_in_segment}
use Rattle.param_segments.specs.Runs.{AreRunsOf, AreRunsSoFar, Run, count_in_order, place_group, run_segments, segment_keys}
use Rattle.param_segments.specs.SetSegments.{AreSetSegments}
use Rattle.param_segments.proofs.RunSteps.{runs_are}
use Rattle.param_segments.proofs.SegmentsOfSet.{are_of_set}

-- ---- the keys at places

keys_in_segment : (number row : ℕ) (keys : List Key) → map (λ (p : RowPlace). p.key) (places_in_segment number row keys) ≡ keys
keys_in_segment number row [] = refl
keys_in_segment number row (key ∷ keys) = ap (λ (ks : List Key). key ∷ ks) (keys_in_segment number (row + 1) keys)

keys_at_places : (number : ℕ) (ss : List Segment) → map (λ (p : RowPlace). p.key) (places_from number ss) ≡ segment_keys ss
keys_at_places number [] = refl
keys_at_places number (s ∷ ss) =
    map-append (λ (p : RowPlace). p.key) (places_in_segment number 0 s.keys) (places_from (number + 1) ss)
    ∙ ap (λ (ks : List Key). ks ++ map (λ (p : RowPlace). p.key) (places_from (number + 1) ss)) (keys_in_segment number 0 s.keys)
    ∙ ap (λ (ks : List Key). s.keys ++ ks) (keys_at_places (number + 1) ss)

some_keys : (ss : List Segment) → 1 ≤ length ss → AllByRecursion IsSegment ss → 1 ≤ length (segment_keys ss)
some_keys [] some sound = absurd (omega (arith, some))
some_keys (s ∷ ss) some sound = let first = sound.0.some_rows in omega (arith, length-append s.keys (segment_keys ss), first)

-- ---- one run

one_rises : (gs : List (List ℕ)) (runs : List Run) → AreRunsOf gs runs → length gs ≡ 1 → IsStrictlySortedBy key_cmp (segment_keys (flat_map run_segments runs)) × (1 ≤ length (flat_map run_segments runs))
one_rises [] runs of one = absurd (omega (arith, one))
one_rises (g ∷ gs) [] of one = absurd of
one_rises (g ∷ []) (r ∷ []) of one =
    let whole : run_segments r ++ [] ≡ run_segments r = append-nil (run_segments r) in
    let last = length-append r.full (r.last ∷ []) in (
      subst (λ (ss : List Segment). IsStrictlySortedBy key_cmp (segment_keys ss)) (sym whole) of.0.rising,
      omega (arith, ap length whole, last),
    )
one_rises (g ∷ []) (r ∷ q ∷ runs) of one = absurd of.1
one_rises (g ∷ h ∷ gs) (r ∷ runs) of one = absurd (omega (arith, one))

-- ---- its number

zero_at : (numbers : List ℕ) (i : ℕ) → AllByRecursion (λ n. n < 1) numbers → get_or numbers i 0 ≡ 0
zero_at [] zero within = refl
zero_at [] (suc i) within = refl
zero_at (n ∷ ns) zero within = let lt = within.0 in omega (arith, lt)
zero_at (n ∷ ns) (suc i) within = zero_at ns i within.1

all_zero : (numbers : List ℕ) (places : List RowPlace) → AllByRecursion (λ n. n < 1) numbers → AllByRecursion (λ n. n ≡ 0) (map (place_group numbers) places)
all_zero numbers [] within = tt
all_zero numbers (p ∷ ps) within = (zero_at numbers p.segment within, all_zero numbers ps within)

no_other : (ns : List ℕ) → AllByRecursion (λ n. n ≡ 0) ns → count_in_order 1 ns ≡ Some 1
no_other [] all = refl
no_other (n ∷ ns) all = ap (λ (m : ℕ). count_in_order 1 (m ∷ ns)) all.0 ∙ no_other ns all.1

one_in_order : (ns : List ℕ) → 1 ≤ length ns → AllByRecursion (λ n. n ≡ 0) ns → count_in_order 0 ns ≡ Some 1
one_in_order [] some all = absurd (omega (arith, some))
one_in_order (n ∷ ns) some all = ap (λ (m : ℕ). count_in_order 0 (m ∷ ns)) all.0 ∙ no_other ns all.1

-- ---- the set

pub one_group : (segments : List Segment) (r : Runs) → AllByRecursion IsSegment segments → AreRunsSoFar segments r → r.count ≡ 1 → AreSetSegments segments
one_group segments r sound are one =
    let places = places_from 0 segments in
    let numbers = r.numbers.items in
    let count : length r.groups ≡ 1 = sym are.count ∙ one in
    let run = one_rises r.groups are.runs.0 are.runs.1 count in
    let rising : IsStrictlySortedBy key_cmp (segment_keys segments) = subst (λ (ss : List Segment). IsStrictlySortedBy key_cmp (segment_keys ss)) are.runs.2 run.0 in
    let some : 1 ≤ length segments = subst (λ (ss : List Segment). 1 ≤ length ss) are.runs.2 run.1 in
    let rises : IsStrictlySortedBy key_cmp (map (λ (p : RowPlace). p.key) places) = subst (IsStrictlySortedBy key_cmp) (sym (keys_at_places 0 segments)) rising in
    let rows : 1 ≤ length places = omega (arith, some_keys segments some sound, ap length (keys_at_places 0 segments), length-map places (λ (p : RowPlace). p.key)) in
    let within : AllByRecursion (λ n. n < 1) numbers = subst (λ (k : ℕ). AllByRecursion (λ n. n < k) numbers) count are.within in
    let order : count_in_order 0 (map (place_group numbers) places) ≡ Some 1 = one_in_order (map (place_group numbers) places) (omega (arith, rows, length-map places (place_group numbers))) (all_zero numbers places within) in
    are_of_set segments places r.groups numbers sound (IsPermutation-refl places) rises (runs_are segments r are) (order ∙ ap (λ (n : ℕ). Some n) (sym count))
