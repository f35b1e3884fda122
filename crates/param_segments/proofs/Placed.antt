-- The rows at the places of segments are the rows of the segments.
use Rattle.std.proofs.Common.{◌≡◌, ◌∙◌, ℕ, zero, suc, ℤ, pos, ◌+◌, ◌<◌, ◌^◌, List, [], ◌∷◌, ◌++◌, length, map, take, drop, drop-cons, get_or, add-one, append_assoc, Bool, refl, sym, ap, subst, arith}
use Rattle.std.specs.Prelude.{flat_map, nat_eq}
use Rattle.std.specs.Int.{w128}
use Rattle.std.specs.Int.RustNames.{FitsSigned}
use Rattle.std.specs.List.{AllByRecursion, IsDistinct}
use Rattle.std.specs.List.Sorted.{IsPermutation, IsSortedBy, IsStrictlySortedBy}
use Rattle.std.specs.Ordering.{is_lt}
use Rattle.std.proofs.Math.Seq.{take-suc}
use Rattle.std.proofs.lemmas.List.{length-map, map-append}
use Rattle.std.proofs.lemmas.List.Elements.{All-from_recursion, recursion_from_All}
use Rattle.std.proofs.lemmas.List.Sorted.{All-permutation, IsPermutation-map}
use Rattle.std.proofs.lemmas.Simd.{map-map}
use Rattle.arch_types.specs.declared.key.Key.{Key}
use Rattle.arch_types.specs.Order.{key_cmp}
use Rattle.segment_codec.specs.KeyColumn.{IsKey}
use Rattle.segment_codec.specs.RawColumn.{IsRawColumn}
use Rattle.segment_codec.specs.Segment.{IsSegment}
use Rattle.segment_codec.specs.declared.segment.Segment.{Segment}
use Rattle.container_extract.specs.declared.values.RawValue.{RawValue}
use Rattle.param_segments.specs.RowPlaces.{RowPlace}
use Rattle.param_segments.specs.Groups.{segment_of, set_of}
use Rattle.param_segments.specs.RowPlaces.{IsRowPlace, numbered_segment, placed_row, places_from, places_in_segment, raw_in_row, values_in_row}
use Rattle.param_segments.specs.Rows.{AreSetRows, IsSetRow, SetRow, is_earlier, set_row}
use Rattle.param_segments.specs.Segments.{column_head, column_tail, rows_from, rows_of_segment, values_from}
use Rattle.param_segments.proofs.Decoded.{each_at}
use Rattle.param_segments.proofs.Rereading.{rows_sorted}

-- ---- what loops over lists keep

pub next_dropped : {X : Type 0} (xs : List X) (i : ℕ) (x : X) → i < length xs → x ≡ get_or xs i x → drop i xs ≡ x ∷ drop (i + 1) xs
next_dropped {X} xs i x lt is = drop-cons xs i x lt ∙ ap (λ (y : X). y ∷ drop (suc i) xs) (sym is) ∙ ap (λ (k : ℕ). x ∷ drop k xs) (sym (add-one i))

pub next_taken : {X : Type 0} (xs : List X) (i : ℕ) (x : X) → i < length xs → x ≡ get_or xs i x → take (i + 1) xs ≡ take i xs ++ x ∷ []
next_taken {X} xs i x lt is = ap (λ (k : ℕ). take k xs) (add-one i) ∙ take-suc xs i x lt ∙ ap (λ (y : X). take i xs ++ y ∷ []) (sym is)

-- ---- the rows at the places of a segment

heads : (cs : List (List ℤ)) → map column_head cs ≡ map (raw_in_row 0) cs
heads [] = refl
heads ([] ∷ cs) = ap (λ (zs : List ℤ). pos 0 ∷ zs) (heads cs)
heads ((x ∷ xs) ∷ cs) = ap (λ (zs : List ℤ). x ∷ zs) (heads cs)

one_tail : (j : ℕ) (c : List ℤ) → raw_in_row j (column_tail c) ≡ raw_in_row (suc j) c
one_tail j [] = refl
one_tail j (x ∷ xs) = refl

tails : (j : ℕ) (cs : List (List ℤ)) → map (raw_in_row j) (map column_tail cs) ≡ map (raw_in_row (suc j)) cs
tails j [] = refl
tails j (c ∷ cs) = ap (λ (z : ℤ). z ∷ map (raw_in_row j) (map column_tail cs)) (one_tail j c) ∙ ap (λ (zs : List ℤ). raw_in_row (suc j) c ∷ zs) (tails j cs)

rows_placed : (segments : List Segment) (number k : ℕ) (s : Segment) (keys : List Key) (shifted : List (List ℤ)) → numbered_segment segments number ≡ s → ((j : ℕ) → map (raw_in_row j) shifted ≡ map (raw_in_row (k + j)) s.columns) →
    map (placed_row segments) (places_in_segment number k keys) ≡ rows_from s.parameters keys shifted
rows_placed segments number k s [] shifted is same = refl
rows_placed segments number k s (key ∷ keys) shifted is same =
    let others = map (placed_row segments) (places_in_segment number (k + 1) keys) in
    let none : k ≡ k + 0 = omega arith in
    let raws : map (raw_in_row k) s.columns ≡ map column_head shifted = ap (λ (n : ℕ). map (raw_in_row n) s.columns) none ∙ sym (same 0) ∙ sym (heads shifted) in
    let later : (j : ℕ) → map (raw_in_row j) (map column_tail shifted) ≡ map (raw_in_row ((k + 1) + j)) s.columns =
    λ j. tails j shifted ∙ same (suc j) ∙ ap (λ (n : ℕ). map (raw_in_row n) s.columns) (shift k j) in
    ap (λ (x : Segment). set_row key (values_in_row k x.parameters x.columns) ∷ others) is
    ∙ ap (λ (zs : List ℤ). set_row key (values_from s.parameters zs) ∷ others) raws
    ∙ ap (λ (rows : List SetRow). set_row key (values_from s.parameters (map column_head shifted)) ∷ rows) (rows_placed segments number (k + 1) s keys (map column_tail shifted) is later)
  where
    shift : (k j : ℕ) → k + suc j ≡ (k + 1) + j
    shift k j = omega arith

length_with : (xs : List Segment) (y : Segment) (ys : List Segment) → length (xs ++ y ∷ ys) ≡ length xs + suc (length ys)
length_with [] y ys = let none : suc (length ys) ≡ 0 + suc (length ys) = omega arith in none
length_with (x ∷ xs) y ys = let rest = length_with xs y ys in let more : suc (length (xs ++ y ∷ ys)) ≡ suc (length xs) + suc (length ys) = omega (arith, rest) in more

own_number : (front rest : List Segment) (s : Segment) → numbered_segment (front ++ s ∷ rest) (length front) ≡ s
own_number [] rest s = refl
own_number (x ∷ xs) rest s = own_number xs rest s

all_placed : (front rest segments : List Segment) (number : ℕ) → number ≡ length front → segments ≡ front ++ rest → map (placed_row segments) (places_from number rest) ≡ flat_map rows_of_segment rest
all_placed front [] segments number at is = refl
all_placed front (s ∷ ss) segments number at is =
    let here : numbered_segment segments number ≡ s = ap (λ (xs : List Segment). numbered_segment xs number) is ∙ ap (numbered_segment (front ++ s ∷ ss)) at ∙ own_number front ss s in
    let one = length_with front s [] in
    let next : number + 1 ≡ length (front ++ s ∷ []) = omega (arith, one, at) in
    let from_first : (j : ℕ) → map (raw_in_row j) s.columns ≡ map (raw_in_row (0 + j)) s.columns = λ j. ap (λ (n : ℕ). map (raw_in_row n) s.columns) (none_before j) in
    map-append (placed_row segments) (places_in_segment number 0 s.keys) (places_from (number + 1) ss)
    ∙ ap (λ (rows : List SetRow). rows ++ map (placed_row segments) (places_from (number + 1) ss)) (rows_placed segments number 0 s s.keys s.columns here from_first)
    ∙ ap (λ (rows : List SetRow). rows_of_segment s ++ rows) (all_placed (front ++ s ∷ []) ss segments (number + 1) next (is ∙ sym (append_assoc front (s ∷ []) ss)))
  where
    none_before : (j : ℕ) → j ≡ 0 + j
    none_before j = omega arith

-- the rows at all places are those of the segments
pub rows_at_places : (segments : List Segment) → map (placed_row segments) (places_from 0 segments) ≡ flat_map rows_of_segment segments
rows_at_places segments = all_placed [] segments segments 0 refl refl

-- ---- each place is one of the segments

join_places : (P : RowPlace → Type 0) (xs ys : List RowPlace) → AllByRecursion P xs → AllByRecursion P ys → AllByRecursion P (xs ++ ys)
join_places P [] ys all more = more
join_places P (x ∷ xs) ys all more = (all.0, join_places P xs ys all.1 more)

in_segment : (segments : List Segment) (number k : ℕ) (keys : List Key) → number < length segments → k + length keys ≡ length (numbered_segment segments number).keys → AllByRecursion IsKey keys → AllByRecursion (IsRowPlace segments) (places_in_segment number k keys)
in_segment segments number k [] lt len all = tt
in_segment segments number k (key ∷ keys) lt len all =
    (record { key = all.0; segment = lt; row = omega (arith, len) }, in_segment segments number (k + 1) keys lt (omega (arith, len)) all.1)

in_segments : (front rest segments : List Segment) (number : ℕ) → number ≡ length front → segments ≡ front ++ rest → AllByRecursion IsSegment rest → AllByRecursion (IsRowPlace segments) (places_from number rest)
in_segments front [] segments number at is all = tt
in_segments front (s ∷ ss) segments number at is all =
    let here : numbered_segment segments number ≡ s = ap (λ (xs : List Segment). numbered_segment xs number) is ∙ ap (numbered_segment (front ++ s ∷ ss)) at ∙ own_number front ss s in
    let long = length_with front s ss in
    let whole : length segments ≡ length (front ++ s ∷ ss) = ap length is in
    let one = length_with front s [] in
    let next : number + 1 ≡ length (front ++ s ∷ []) = omega (arith, one, at) in
    let keys = ap (λ (x : Segment). length x.keys) here in
    join_places (IsRowPlace segments) (places_in_segment number 0 s.keys) (places_from (number + 1) ss)
    (in_segment segments number 0 s.keys (omega (arith, long, whole, at)) (omega (arith, keys)) all.0.key_fields)
    (in_segments (front ++ s ∷ []) ss segments (number + 1) next (is ∙ sym (append_assoc front (s ∷ []) ss)) all.1)

pub places_inside : (segments : List Segment) → AllByRecursion IsSegment segments → AllByRecursion (IsRowPlace segments) (places_from 0 segments)
places_inside segments all = in_segments [] segments segments 0 refl refl all

-- ---- places in another order

pub sorted_inside : (segments : List Segment) (places sorted : List RowPlace) → AllByRecursion IsSegment segments → places ≡ places_from 0 segments → IsPermutation places sorted → AllByRecursion (IsRowPlace segments) sorted
sorted_inside segments places sorted all are same =
    recursion_from_All (IsRowPlace segments) sorted (All-permutation (IsRowPlace segments) places sorted same (All-from_recursion (IsRowPlace segments) places (subst (AllByRecursion (IsRowPlace segments)) (sym are) (places_inside segments all))))

abbrev pub is_place_earlier : RowPlace → RowPlace → Bool
is_place_earlier a b = is_lt (key_cmp a.key b.key)

abbrev pub no_place : RowPlace
no_place = record { key = record { time = pos 0; seq = 0 }; segment = 0; row = 0 }

no_row : SetRow
no_row = record { key = record { time = pos 0; seq = 0 }; values = [] }

row_at : (f : RowPlace → SetRow) (ps : List RowPlace) (i : ℕ) (d : SetRow) → i < length ps → get_or (map f ps) i d ≡ f (get_or ps i no_place)
row_at f [] i d lt = absurd (omega arith)
row_at f (p ∷ ps) zero d lt = refl
row_at f (p ∷ ps) (suc i) d lt = row_at f ps i d (omega arith)

rows_up : (segments : List Segment) (sorted : List RowPlace) → IsSortedBy is_place_earlier sorted → IsSortedBy is_earlier (map (placed_row segments) sorted)
rows_up segments sorted up = λ k d low high.
    let f = placed_row segments in
    let len : length (map f sorted) ≡ length sorted = length-map sorted f in
    let inside : k + 1 < length sorted = omega (arith, len, high) in
    let here : get_or (map f sorted) k d ≡ f (get_or sorted k no_place) = row_at f sorted k d (omega (arith, inside)) in
    let next : get_or (map f sorted) (k + 1) d ≡ f (get_or sorted (k + 1) no_place) = row_at f sorted (k + 1) d inside in
    ap (λ (x : SetRow). is_earlier x (get_or (map f sorted) k d)) next ∙ ap (is_earlier (f (get_or sorted (k + 1) no_place))) here ∙ up k no_place low inside

-- the rows of a set's segments, at their places in the order of keys, are the set's
pub rows_again_sorted : (segments : List Segment) (ts : List SetRow) (places sorted : List RowPlace) → AreSetRows ts → segments ≡ set_of ts → places ≡ places_from 0 segments → IsPermutation places sorted → IsSortedBy is_place_earlier sorted →
    map (placed_row segments) sorted ≡ ts
rows_again_sorted segments ts places sorted are is all same up =
    let f = placed_row segments in
    let mixed : map f places ≡ flat_map rows_of_segment (set_of ts) = ap (map f) all ∙ rows_at_places segments ∙ ap (flat_map rows_of_segment) is in
    rows_sorted no_row ts (map f sorted) are (subst (λ (rows : List SetRow). IsPermutation rows (map f sorted)) mixed (IsPermutation-map f places sorted same)) (rows_up segments sorted up)

-- ---- keys and times of rows are those of their places

pub placed_keys : (segments : List Segment) (places : List RowPlace) → map (λ (t : SetRow). t.key) (map (placed_row segments) places) ≡ map (λ (p : RowPlace). p.key) places
placed_keys segments places = map-map (λ (t : SetRow). t.key) (placed_row segments) places

pub rise_as_rows : (segments : List Segment) (places : List RowPlace) (ts : List SetRow) → map (placed_row segments) places ≡ ts → IsStrictlySortedBy key_cmp (map (λ (t : SetRow). t.key) ts) → IsStrictlySortedBy key_cmp (map (λ (p : RowPlace). p.key) places)
rise_as_rows segments places ts are up = subst (IsStrictlySortedBy key_cmp) (ap (map (λ (t : SetRow). t.key)) (sym are) ∙ placed_keys segments places) up

-- ---- a row at a place is one of a set

pub parameters_again : (ps : List ℕ) (raws : List ℤ) → length raws ≡ length ps → map (λ (v : RawValue). v.parameter) (values_from ps raws) ≡ ps
parameters_again [] raws len = refl
parameters_again (p ∷ ps) [] len = absurd (omega (arith, len))
parameters_again (p ∷ ps) (z ∷ zs) len = ap (λ (xs : List ℕ). p ∷ xs) (parameters_again ps zs (omega (arith, len)))

pub raws_again : (ps : List ℕ) (raws : List ℤ) → length raws ≡ length ps → map (λ (v : RawValue). v.raw) (values_from ps raws) ≡ raws
raws_again [] [] len = refl
raws_again [] (z ∷ zs) len = absurd (omega (arith, len))
raws_again (p ∷ ps) [] len = absurd (omega (arith, len))
raws_again (p ∷ ps) (z ∷ zs) len = ap (λ (xs : List ℤ). z ∷ xs) (raws_again ps zs (omega (arith, len)))

raws_fit : (row n : ℕ) (cs : List (List ℤ)) → row < n → AllByRecursion (IsRawColumn n) cs → AllByRecursion (FitsSigned w128) (map (raw_in_row row) cs)
raws_fit row n [] lt all = tt
raws_fit row n (c ∷ cs) lt all = (each_at (FitsSigned w128) c row (pos 0) all.0.1 (let len = all.0.0 in omega (arith, len, lt)), raws_fit row n cs lt all.1)

pub segment_there : (segments : List Segment) (p : RowPlace) → AllByRecursion IsSegment segments → IsRowPlace segments p → IsSegment (numbered_segment segments p.segment)
segment_there segments p all is = each_at IsSegment segments p.segment (segment_of [] []) all is.segment

columns_long : (row n : ℕ) (cs : List (List ℤ)) → row < n → AllByRecursion (IsRawColumn n) cs → AllByRecursion (λ (c : List ℤ). row < length c) cs
columns_long row n [] lt all = tt
columns_long row n (c ∷ cs) lt all = ((let len = all.0.0 in omega (arith, len, lt)), columns_long row n cs lt all.1)

-- each column of its segment has its row
pub row_in_columns : (segments : List Segment) (p : RowPlace) → AllByRecursion IsSegment segments → IsRowPlace segments p → AllByRecursion (λ (c : List ℤ). p.row < length c) (numbered_segment segments p.segment).columns
row_in_columns segments p all is = let s = numbered_segment segments p.segment in columns_long p.row (length s.keys) s.columns is.row (segment_there segments p all is).columns

pub placed_is_row : (segments : List Segment) (p : RowPlace) → AllByRecursion IsSegment segments → IsRowPlace segments p → IsSetRow (placed_row segments p)
placed_is_row segments p all is =
    let s = numbered_segment segments p.segment in
    let own = segment_there segments p all is in
    let raws = map (raw_in_row p.row) s.columns in
    let len : length raws ≡ length s.parameters = length-map s.columns (raw_in_row p.row) ∙ own.column_count in
    let values = values_from s.parameters raws in
    let parameters : map (λ (v : RawValue). v.parameter) values ≡ s.parameters = parameters_again s.parameters raws len in
    let count : length values ≡ length s.parameters = sym (length-map values (λ (v : RawValue). v.parameter)) ∙ ap length parameters in
    record {
      some = let some = own.some_parameters in omega (arith, some, count);
      few = subst (λ (n : ℕ). n < 2 ^ 16) (sym count) own.few_parameters;
      distinct = subst (IsDistinct nat_eq) (sym parameters) own.distinct;
      parameters = subst (AllByRecursion (λ n. n < 2 ^ 16)) (sym parameters) own.parameters;
      key = is.key;
      raws = subst (AllByRecursion (FitsSigned w128)) (sym (raws_again s.parameters raws len)) (raws_fit p.row (length s.keys) s.columns is.row own.columns);
    }

-- ---- the set
