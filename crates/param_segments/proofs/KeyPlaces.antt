-- The keys of segments beside the numbers of these, put in order.
use Rattle.std.proofs.Common.{◌≡◌, ◌∙◌, ℕ, ◌+◌, ◌<◌, ◌≤◌, List, [], ◌∷◌, ◌++◌, length, map, drop, get_or, append_assoc, append-nil, false, refl, sym, ap, subst, arith}
use Rattle.std.specs.List.{AllByRecursion, swap}
use Rattle.std.specs.List.Sorted.{IsPermutation, IsSortedBy, SwapsInRange, apply_swaps}
use Rattle.std.specs.Ordering.{int_cmp, is_lt, nat_cmp, ordering_then}
use Rattle.std.specs.declared.cmp.Ordering.{Ordering}
use Rattle.std.specs.declared.cmp.Ordering.TheVariants.{Equal, Greater, Less}
use Rattle.std.proofs.Math.ListN.{get_or-map, set}
use Rattle.std.proofs.lemmas.List.{drop_all, length-map, map-append, map-set}
use Rattle.std.proofs.lemmas.Simd.{map-map}
use Rattle.arch_types.specs.declared.key.Key.{Key}
use Rattle.arch_types.specs.Order.{key_cmp}
use Rattle.segment_codec.specs.Outline.{first_of, last_of}
use Rattle.segment_codec.specs.declared.segment.Segment.{Segment}
use Rattle.param_segments.specs.declared.key_place.KeyPlace.{KeyPlace}
use Rattle.param_segments.specs.RowPlaces.{RowPlace, key_in, key_places, place_key, places_from, places_in_segment}
use Rattle.param_segments.specs.Runs.{IsLast, key_group, place_group}
use Rattle.param_segments.proofs.Placed.{is_place_earlier, next_dropped, no_place}

-- ---- the ends of keys

pub first_is : (ks : List Key) → 1 ≤ length ks → (rest : List Key) × (ks ≡ first_of ks ∷ rest)
first_is [] some = absurd (omega (arith, some))
first_is (k ∷ ks) some = (ks, refl)

pub last_is : (ks : List Key) → 1 ≤ length ks → IsLast ks (last_of ks)
last_is [] some = absurd (omega (arith, some))
last_is (k ∷ []) some = ([], refl)
last_is (k ∷ j ∷ ks) some = let rest = last_is (j ∷ ks) (omega arith) in (k ∷ rest.0, ap (λ (xs : List Key). k ∷ xs) rest.1)

-- ---- keys are those of places

abbrev pub key_place : RowPlace → KeyPlace
key_place p = record { time = p.key.time; seq = p.key.seq; segment = p.segment }

of_one : (number row : ℕ) (keys : List Key) → map (key_in number) keys ≡ map key_place (places_in_segment number row keys)
of_one number row [] = refl
of_one number row (key ∷ keys) = ap (λ (ps : List KeyPlace). key_in number key ∷ ps) (of_one number (row + 1) keys)

pub keys_of_places : (number : ℕ) (segments : List Segment) → key_places number segments ≡ map key_place (places_from number segments)
keys_of_places number [] = refl
keys_of_places number (s ∷ segments) =
    ap (λ (ps : List KeyPlace). ps ++ key_places (number + 1) segments) (of_one number 0 s.keys) ∙ ap (λ (ps : List KeyPlace). map key_place (places_in_segment number 0 s.keys) ++ ps) (keys_of_places (number + 1) segments)
    ∙ sym (map-append key_place (places_in_segment number 0 s.keys) (places_from (number + 1) segments))

-- one key more of a segment
pub key_more : (old new total : List KeyPlace) (number i : ℕ) (keys : List Key) (k : Key) → i < length keys → k ≡ get_or keys i k → new ≡ old ++ key_in number k ∷ [] → old ++ map (key_in number) (drop i keys) ≡ total → new ++ map (key_in number) (drop (i + 1) keys) ≡ total
key_more old new total number i keys k lt is more so_far =
    let rest = map (key_in number) (drop (i + 1) keys) in
    ap (λ (xs : List KeyPlace). xs ++ rest) more ∙ append_assoc old (key_in number k ∷ []) rest
    ∙ ap (λ (ks : List Key). old ++ map (key_in number) ks) (sym (next_dropped keys i k lt is)) ∙ so_far

pub keys_end : (old total : List KeyPlace) (number i : ℕ) (keys : List Key) → length keys ≤ i → old ++ map (key_in number) (drop i keys) ≡ total → old ≡ total
keys_end old total number i keys le so_far = sym (append-nil old) ∙ ap (λ (ks : List Key). old ++ map (key_in number) ks) (sym (drop_all i keys le)) ∙ so_far

-- the keys of one segment more
pub segment_more : (old new total : List KeyPlace) (i : ℕ) (segments : List Segment) (s : Segment) (keys : List Key) → i < length segments → s ≡ get_or segments i s → keys ≡ s.keys → new ≡ old ++ map (key_in i) keys → old ++ key_places i (drop i segments) ≡ total →
    new ++ key_places (i + 1) (drop (i + 1) segments) ≡ total
segment_more old new total i segments s keys lt is own more so_far =
    let rest = key_places (i + 1) (drop (i + 1) segments) in
    ap (λ (xs : List KeyPlace). xs ++ rest) (more ∙ ap (λ (ks : List Key). old ++ map (key_in i) ks) own) ∙ append_assoc old (map (key_in i) s.keys) rest
    ∙ ap (λ (ss : List Segment). old ++ key_places i ss) (sym (next_dropped segments i s lt is)) ∙ so_far

pub segments_end : (old total : List KeyPlace) (i : ℕ) (segments : List Segment) → length segments ≤ i → old ++ key_places i (drop i segments) ≡ total → old ≡ total
segments_end old total i segments le so_far = sym (append-nil old) ∙ ap (λ (ss : List Segment). old ++ key_places i ss) (sym (drop_all i segments le)) ∙ so_far

-- ---- what is made of each item, in another order, is made of the items in that order

module _ {A B : Type 0} (f : A → B) where
  swap_mapped : (xs : List A) (i j : ℕ) → map f (swap xs i j) ≡ swap (map f xs) i j
  swap_mapped [] i j = refl
  swap_mapped (d ∷ ys) i j =
      let xs = d ∷ ys in
      let a = get_or xs i d in
      let b = get_or xs j d in
      map-set f (set xs i b) j a ∙ ap (λ (l : List B). set l j (f a)) (map-set f xs i b) ∙ ap (λ (z : B). set (set (map f xs) i z) j (f a)) (sym (get_or-map f xs j d))
      ∙ ap (λ (z : B). set (set (map f xs) i (get_or (map f xs) j (f d))) j z) (sym (get_or-map f xs i d))

  swaps_mapped : (xs : List A) (moves : List (ℕ × ℕ)) → map f (apply_swaps xs moves) ≡ apply_swaps (map f xs) moves
  swaps_mapped xs [] = refl
  swaps_mapped xs (p ∷ ps) = swap_mapped (apply_swaps xs ps) p.0 p.1 ∙ ap (λ (l : List B). swap l p.0 p.1) (swaps_mapped xs ps)

  pub moved_back : (xs : List A) (ys : List B) → IsPermutation (map f xs) ys → (zs : List A) × IsPermutation xs zs × (map f zs ≡ ys)
  moved_back xs ys same = (
    apply_swaps xs same.moves,
    record { moves = same.moves; below = subst (λ (n : ℕ). SwapsInRange n same.moves) (length-map xs f) same.below; is = refl },
    swaps_mapped xs same.moves ∙ sym same.is,
  )

-- ---- order

by_key : (a b c : Ordering) → is_lt (ordering_then a (ordering_then b c)) ≡ false → is_lt (ordering_then a b) ≡ false
by_key Less b c e = e
by_key Greater b c e = refl
by_key Equal Less c e = e
by_key Equal Equal c e = refl
by_key Equal Greater c e = refl

-- keys stand in the order in which they were sorted beside their segments
pub by_cmp : (a b : KeyPlace) → is_lt (ordering_then (int_cmp a.time b.time) (ordering_then (nat_cmp a.seq b.seq) (nat_cmp a.segment b.segment))) ≡ false → is_lt (key_cmp (place_key a) (place_key b)) ≡ false
by_cmp a b e = by_key (int_cmp a.time b.time) (nat_cmp a.seq b.seq) (nat_cmp a.segment b.segment) e

abbrev pub no_key_place : KeyPlace
no_key_place = key_place no_place

-- places stand in the order in which their keys do
pub sorted_places : (ps : List RowPlace) (sorted : List KeyPlace) → map key_place ps ≡ sorted →
    ((k : ℕ) (d : KeyPlace) → k + 1 < length sorted → is_lt (key_cmp (place_key (get_or sorted (k + 1) d)) (place_key (get_or sorted k d))) ≡ false) → IsSortedBy is_place_earlier ps
sorted_places ps sorted are up = λ k d low high.
    let long : length sorted ≡ length ps = ap length (sym are) ∙ length-map ps key_place in
    let here = ap (λ (l : List KeyPlace). get_or l k (key_place d)) (sym are) ∙ get_or-map key_place ps k d in
    let next = ap (λ (l : List KeyPlace). get_or l (k + 1) (key_place d)) (sym are) ∙ get_or-map key_place ps (k + 1) d in
    sym (ap (λ (p : KeyPlace). is_lt (key_cmp (place_key p) (place_key (get_or sorted k (key_place d))))) next ∙ ap (λ (p : KeyPlace). is_lt (key_cmp (place_key (key_place (get_or ps (k + 1) d))) (place_key p))) here)
    ∙ up k (key_place d) (omega (arith, long, high))

pub keys_at_places : (ps : List RowPlace) (sorted : List KeyPlace) → map key_place ps ≡ sorted → map place_key sorted ≡ map (λ (p : RowPlace). p.key) ps
keys_at_places ps sorted are = ap (map place_key) (sym are) ∙ map-map place_key key_place ps

pub groups_at_places : (numbers : List ℕ) (ps : List RowPlace) (sorted : List KeyPlace) → map key_place ps ≡ sorted → map (key_group numbers) sorted ≡ map (place_group numbers) ps
groups_at_places numbers ps sorted are = ap (map (key_group numbers)) (sym are) ∙ map-map (key_group numbers) key_place ps

all_mapped : (P : KeyPlace → Type 0) (ps : List RowPlace) → AllByRecursion (λ p. P (key_place p)) ps → AllByRecursion P (map key_place ps)
all_mapped P [] all = tt
all_mapped P (p ∷ ps) all = (all.0, all_mapped P ps all.1)

pub all_of_places : (P : KeyPlace → Type 0) (ps : List RowPlace) (sorted : List KeyPlace) → map key_place ps ≡ sorted → AllByRecursion (λ p. P (key_place p)) ps → AllByRecursion P sorted
all_of_places P ps sorted are all = subst (AllByRecursion P) are (all_mapped P ps all)

-- the places of keys that were put in order
pub places_back : (segments : List Segment) (keys sorted : List KeyPlace) → keys ≡ key_places 0 segments → IsPermutation keys sorted → (ps : List RowPlace) × IsPermutation (places_from 0 segments) ps × (map key_place ps ≡ sorted)
places_back segments keys sorted are same =
    moved_back key_place (places_from 0 segments) sorted (subst (λ (ks : List KeyPlace). IsPermutation ks sorted) (are ∙ keys_of_places 0 segments) same)
