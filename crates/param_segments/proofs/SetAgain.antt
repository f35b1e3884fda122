-- The set of the rows of segments that stand group by group is these segments.
use Rattle.std.proofs.Common.{◌≡◌, ◌∙◌, ℕ, zero, suc, ℤ, ◌+◌, ◌<◌, ◌≤◌, List, [], ◌∷◌, ◌++◌, length, map, take, take_all, get_or, add-one, append_assoc, append-nil, length-append, Bool, true, false, cond, eqb, Option, Some, None, inl, inr, refl, sym, ap, subst, arith}
use Rattle.std.specs.Prelude.{◌==◌, ◌||◌, filter, flat_map, fold, nat_eq, nat_lt, replicate, if◌then◌else◌}
use Rattle.std.specs.List.{AllByRecursion, IsDistinct, list_any}
use Rattle.std.specs.List.Sorted.{IsPermutation, IsStrictlySortedBy}
use lib.Pointwise.{pointwise}
use Rattle.std.proofs.Math.ListN.{get_or-map}
use Rattle.std.proofs.Math.Seq.{take-suc}
use Rattle.std.proofs.lemmas.Bool.{cases_Bool, eqb-true, ltb-true}
use Rattle.std.proofs.lemmas.Cmp.{nat_list_eq_equiv}
use Rattle.std.proofs.lemmas.List.{length-map, map-append, map_push}
use Rattle.std.proofs.lemmas.List.Concat.{flat_map-append}
use Rattle.std.proofs.lemmas.List.Elements.{filter-append}
use Rattle.std.proofs.lemmas.List.Sorted.{IsPermutation-map}
use Rattle.std.proofs.lemmas.List.Sums.{fold-append}
use Rattle.std.proofs.lemmas.Map.Keys.{IsDistinct-head, IsDistinct-tail}
use Rattle.std.proofs.lemmas.Option.{same_Some}
use Rattle.arch_types.specs.declared.key.Key.{Key}
use Rattle.arch_types.specs.Order.{key_cmp}
use Rattle.segment_codec.specs.Segment.{IsSegment, most_rows}
use Rattle.segment_codec.specs.declared.segment.Segment.{Segment}
use Rattle.param_segments.specs.RowPlaces.{RowPlace}
use Rattle.param_segments.specs.Groups.{Pieces, group_segments, groups_of, is_of_group, raw_columns, row_pieces, segment_of, set_of, with_group, with_next_row, with_raws}
use Rattle.param_segments.specs.RowPlaces.{IsRowPlace, numbered_segment, placed_row, places_from, raw_in_row}
use Rattle.param_segments.specs.Rows.{AreSetRows, IsSetRow, SetRow, is_earlier, row_parameters}
use Rattle.param_segments.specs.Runs.{AreRuns, AreRunsOf, IsRunOf, Run, count_in_order, numbered_group, place_group, run_segments, segment_keys}
use Rattle.param_segments.specs.Segments.{column_head, column_tail, rows_from, rows_of_segment}
use Rattle.param_segments.proofs.Asked.{next_default}
use Rattle.param_segments.proofs.Decoded.{each_at}
use Rattle.param_segments.proofs.Grouped.{itself, rising_rows, rows_rank}
use Rattle.param_segments.proofs.Inverse.{AreOf, flat}
use Rattle.param_segments.proofs.MergedCells.{own_keys}
use Rattle.param_segments.proofs.Ordering.{IsRising, filter_all}
use Rattle.param_segments.proofs.Placed.{parameters_again, placed_is_row, placed_keys, raws_again, rows_at_places, segment_there}
use Rattle.param_segments.proofs.Rereading.{IsPiece}
use Rattle.param_segments.proofs.SegmentCells.{lengths, rests_long}
use Rattle.param_segments.proofs.Sorting.{filtered_is}
use Rattle.param_segments.proofs.Stored.{keep_rising}

-- ---- a segment is that of its rows

no_number : (c : List ℤ) → length c ≡ 0 → [] ≡ c
no_number [] e = refl
no_number (x ∷ xs) e = absurd (omega (arith, e))

empties : (n : ℕ) (cs : List (List ℤ)) → length cs ≡ n → AllByRecursion (λ c. length c ≡ 0) cs → ◌≡◌ {A = List (List ℤ)} (replicate n []) cs
empties zero [] len all = refl
empties zero (c ∷ cs) len all = absurd (omega (arith, len))
empties (suc n) [] len all = absurd (omega (arith, len))
empties (suc n) (c ∷ cs) len all = ap (λ (x : List ℤ). x ∷ replicate n []) (no_number c all.0) ∙ ap (λ (xs : List (List ℤ)). c ∷ xs) (empties n cs (omega (arith, len)) all.1)

joined_again : (n : ℕ) (cs : List (List ℤ)) → AllByRecursion (λ c. length c ≡ suc n) cs → with_raws (map column_head cs) (map column_tail cs) ≡ cs
joined_again n [] all = refl
joined_again n ([] ∷ cs) all = absurd (let e = all.0 in omega arith)
joined_again n ((x ∷ xs) ∷ cs) all = ap (λ (rest : List (List ℤ)). (x ∷ xs) ∷ rest) (joined_again n cs all.1)

columns_again : (ps : List ℕ) (ks : List Key) (cs : List (List ℤ)) → length cs ≡ length ps → AllByRecursion (λ c. length c ≡ length ks) cs → raw_columns (length ps) (rows_from ps ks cs) ≡ cs
columns_again ps [] cs wide long = empties (length ps) cs wide long
columns_again ps (k ∷ ks) cs wide long =
    let tails = map column_tail cs in
    ap (λ (rs : List ℤ). with_raws rs (raw_columns (length ps) (rows_from ps ks tails))) (raws_again ps (map column_head cs) (length-map cs column_head ∙ wide))
    ∙ ap (with_raws (map column_head cs)) (columns_again ps ks tails (length-map cs column_tail ∙ wide) (rests_long (length ks) cs long))
    ∙ joined_again (length ks) cs long

segment_again : (s : Segment) → IsSegment s → segment_of s.parameters (rows_of_segment s) ≡ s
segment_again s is =
    let rows = rows_of_segment s in
    ap (λ (ks : List Key). let x : Segment = record { parameters = s.parameters; keys = ks; columns = raw_columns (length s.parameters) rows } in x) (own_keys s.parameters s.keys s.columns)
    ∙ ap (λ (cs : List (List ℤ)). let x : Segment = record { parameters = s.parameters; keys = s.keys; columns = cs } in x)
    (columns_again s.parameters s.keys s.columns is.column_count (lengths (length s.keys) s.columns is.columns))

own_group : (ps : List ℕ) (ks : List Key) (cs : List (List ℤ)) → length cs ≡ length ps → AreOf ps (rows_from ps ks cs)
own_group ps [] cs wide = tt
own_group ps (k ∷ ks) cs wide = (parameters_again ps (map column_head cs) (length-map cs column_head ∙ wide), own_group ps ks (map column_tail cs) (length-map cs column_tail ∙ wide))

segment_rows_of : (g : List ℕ) (s : Segment) → IsSegment s → s.parameters ≡ g → AreOf g (rows_of_segment s)
segment_rows_of g s is e = subst (λ (h : List ℕ). AreOf h (rows_of_segment s)) e (own_group s.parameters s.keys s.columns is.column_count)

row_count : (s : Segment) → length (rows_of_segment s) ≡ length s.keys
row_count s = sym (length-map (rows_of_segment s) (λ t. t.key)) ∙ ap length (own_keys s.parameters s.keys s.columns)

-- ---- pieces of rows are cut as they were joined

abbrev pieces_as : List (List SetRow) → List SetRow → Pieces
pieces_as full last = record { full = full; last = last }

not_full : (n : ℕ) → n < 4096 → eqb n 4096 ≡ false
not_full n lt = elim (cases_Bool (eqb n 4096)) [
  | inl is ↦ absurd (let e = eqb-true n 4096 is in omega (arith, e, lt))
  | inr isnt ↦ isnt
]

fill : (full : List (List SetRow)) (last xs : List SetRow) → length last + length xs ≤ 4096 → fold with_next_row (pieces_as full last) xs ≡ pieces_as full (last ++ xs)
fill full last [] le = ap (pieces_as full) (sym (append-nil last))
fill full last (x ∷ xs) le =
    let one = length-append last (x ∷ []) in
    ap (λ (b : Bool). fold with_next_row (if b then pieces_as (full ++ last ∷ []) (x ∷ []) else pieces_as full (last ++ x ∷ [])) xs) (not_full (length last) (omega (arith, le)))
    ∙ fill full (last ++ x ∷ []) xs (omega (arith, one, le)) ∙ ap (pieces_as full) (append_assoc last (x ∷ []) xs)

next_piece : (full : List (List SetRow)) (last : List SetRow) (x : SetRow) (xs : List SetRow) → length last ≡ 4096 → length xs < 4096 → fold with_next_row (pieces_as full last) (x ∷ xs) ≡ pieces_as (full ++ last ∷ []) (x ∷ xs)
next_piece full last x xs is lt =
    ap (λ (b : Bool). fold with_next_row (if b then pieces_as (full ++ last ∷ []) (x ∷ []) else pieces_as full (last ++ x ∷ [])) xs) (ap (λ (n : ℕ). eqb n 4096) is)
    ∙ fill (full ++ last ∷ []) (x ∷ []) xs (omega (arith, lt))

more_pieces : (full : List (List SetRow)) (last : List SetRow) (ps : List (List SetRow)) (end : List SetRow) → length last ≡ 4096 → AllByRecursion (λ q. length q ≡ 4096) ps → IsPiece end →
    fold with_next_row (pieces_as full last) (flat (ps ++ end ∷ [])) ≡ pieces_as (full ++ last ∷ ps) end
more_pieces full last [] [] is all piece = absurd (omega (arith, piece.0))
more_pieces full last [] (x ∷ xs) is all piece =
    let most = piece.1 in
    ap (fold with_next_row (pieces_as full last)) (append-nil (x ∷ xs)) ∙ next_piece full last x xs is (omega (arith, most))
more_pieces full last ([] ∷ ps) end is all piece = absurd (let e = all.0 in omega arith)
more_pieces full last ((x ∷ xs) ∷ ps) end is all piece =
    let long = all.0 in
    fold-append with_next_row (pieces_as full last) (x ∷ xs) (flat (ps ++ end ∷ []))
    ∙ ap (λ (p : Pieces). fold with_next_row p (flat (ps ++ end ∷ []))) (next_piece full last x xs is (omega (arith, long)))
    ∙ more_pieces (full ++ last ∷ []) (x ∷ xs) ps end long all.1 piece
    ∙ ap (λ (l : List (List SetRow)). pieces_as l end) (append_assoc full (last ∷ []) ((x ∷ xs) ∷ ps))

abbrev pieces_of : Pieces → List (List SetRow)
pieces_of p = p.full ++ p.last ∷ []

cut_again : (ps : List (List SetRow)) (end : List SetRow) → AllByRecursion (λ q. length q ≡ 4096) ps → IsPiece end → row_pieces (flat (ps ++ end ∷ [])) ≡ ps ++ end ∷ []
cut_again [] end all piece =
    let most = piece.1 in
    ap pieces_of (ap (fold with_next_row (pieces_as [] [])) (append-nil end) ∙ fill [] [] end (omega (arith, most)))
cut_again (p ∷ ps) end all piece =
    let long = all.0 in
    ap pieces_of
    (fold-append with_next_row (pieces_as [] []) p (flat (ps ++ end ∷ []))
    ∙ ap (λ (q : Pieces). fold with_next_row q (flat (ps ++ end ∷ []))) (fill [] [] p (omega (arith, long))) ∙ more_pieces [] p ps end long all.1 piece)

-- ---- the segments of a group's rows are its run

each_again : (g : List ℕ) (ss : List Segment) → AllByRecursion IsSegment ss → AllByRecursion (λ s. s.parameters ≡ g) ss → map (segment_of g) (map rows_of_segment ss) ≡ ss
each_again g [] all own = refl
each_again g (s ∷ ss) all own =
    let rest = map (segment_of g) (map rows_of_segment ss) in
    ap (λ (h : List ℕ). segment_of h (rows_of_segment s) ∷ rest) (sym own.0) ∙ ap (λ (x : Segment). x ∷ rest) (segment_again s all.0) ∙ ap (λ (xs : List Segment). s ∷ xs) (each_again g ss all.1 own.1)

flat_again : (ss : List Segment) → flat_map rows_of_segment ss ≡ flat (map rows_of_segment ss)
flat_again [] = refl
flat_again (s ∷ ss) = ap (λ (rows : List SetRow). rows_of_segment s ++ rows) (flat_again ss)

full_pieces : (ss : List Segment) → AllByRecursion (λ s. length s.keys ≡ most_rows) ss → AllByRecursion (λ q. length q ≡ 4096) (map rows_of_segment ss)
full_pieces [] all = tt
full_pieces (s ∷ ss) all = (row_count s ∙ all.0, full_pieces ss all.1)

pub last_holds : {X : Type 0} (P : X → Type 0) (xs : List X) (x : X) → AllByRecursion P (xs ++ x ∷ []) → P x
last_holds P [] x all = all.0
last_holds P (y ∷ ys) x all = last_holds P ys x all.1

run_again : (g : List ℕ) (r : Run) (rows : List SetRow) → IsRunOf g r → AllByRecursion IsSegment (run_segments r) → filter (is_of_group g) rows ≡ flat_map rows_of_segment (run_segments r) → group_segments rows g ≡ run_segments r
run_again g r rows run are own =
    let last = last_holds IsSegment r.full r.last are in
    let some = last.some_rows in
    let few = last.few_rows in
    let count = row_count r.last in
    let piece : IsPiece (rows_of_segment r.last) = (omega (arith, some, count), omega (arith, few, count)) in
    let pieces : map rows_of_segment (run_segments r) ≡ map rows_of_segment r.full ++ rows_of_segment r.last ∷ [] = map_push rows_of_segment r.full r.last in
    let joined : filter (is_of_group g) rows ≡ flat (map rows_of_segment r.full ++ rows_of_segment r.last ∷ []) = own ∙ flat_again (run_segments r) ∙ ap flat pieces in
    ap (λ (ts : List SetRow). map (segment_of g) (row_pieces ts)) joined
    ∙ ap (map (segment_of g)) (cut_again (map rows_of_segment r.full) (rows_of_segment r.last) (full_pieces r.full run.full) piece)
    ∙ ap (map (segment_of g)) (sym pieces) ∙ each_again g (run_segments r) are run.each

-- ---- the rows of a group among those of all runs

join_of : (g : List ℕ) (xs ys : List SetRow) → AreOf g xs → AreOf g ys → AreOf g (xs ++ ys)
join_of g [] ys all more = more
join_of g (x ∷ xs) ys all more = (all.0, join_of g xs ys all.1 more)

run_rows : (g : List ℕ) (ss : List Segment) → AllByRecursion IsSegment ss → AllByRecursion (λ s. s.parameters ≡ g) ss → AreOf g (flat_map rows_of_segment ss)
run_rows g [] are own = tt
run_rows g (s ∷ ss) are own = join_of g (rows_of_segment s) (flat_map rows_of_segment ss) (segment_rows_of g s are.0 own.0) (run_rows g ss are.1 own.1)

each_of : (g : List ℕ) (rows : List SetRow) → AreOf g rows → AllByRecursion (λ t. is_of_group g t ≡ true) rows
each_of g [] of = tt
each_of g (t ∷ ts) of = (ap (λ (h : List ℕ). pointwise nat_eq h g) of.0 ∙ itself g, each_of g ts of.1)

kept_rows : (g : List ℕ) (rows : List SetRow) → AreOf g rows → filter (is_of_group g) rows ≡ rows
kept_rows g rows of = filter_all rows_rank (is_of_group g) rows (each_of g rows of)

passed_rows : (g h : List ℕ) (rows : List SetRow) → AreOf h rows → pointwise nat_eq h g ≡ false → filter (is_of_group g) rows ≡ []
passed_rows g h [] of apart = refl
passed_rows g h (t ∷ ts) of apart =
    ap (λ (b : Bool). cond b (t ∷ filter (is_of_group g) ts) (filter (is_of_group g) ts)) (ap (λ (k : List ℕ). pointwise nat_eq k g) of.0 ∙ apart) ∙ passed_rows g h ts of.1 apart

split : {X : Type 0} (P : X → Type 0) (xs ys : List X) → AllByRecursion P (xs ++ ys) → AllByRecursion P xs × AllByRecursion P ys
split P [] ys all = (tt, all)
split P (x ∷ xs) ys all = let more = split P xs ys all.1 in ((all.0, more.0), more.1)

other_runs : (g : List ℕ) (hs : List (List ℕ)) (runs : List Run) → AllByRecursion (λ h. pointwise nat_eq g h ≡ false) hs → AreRunsOf hs runs → AllByRecursion IsSegment (flat_map run_segments runs) →
    filter (is_of_group g) (flat_map rows_of_segment (flat_map run_segments runs)) ≡ []
other_runs g [] [] apart of are = refl
other_runs g [] (r ∷ runs) apart of are = absurd of
other_runs g (h ∷ hs) [] apart of are = absurd of
other_runs g (h ∷ hs) (r ∷ runs) apart of are =
    let both = split IsSegment (run_segments r) (flat_map run_segments runs) are in
    let rows = flat_map rows_of_segment (run_segments r) in
    let rest = flat_map rows_of_segment (flat_map run_segments runs) in
    ap (filter (is_of_group g)) (flat_map-append rows_of_segment (run_segments r) (flat_map run_segments runs)) ∙ filter-append (is_of_group g) rows rest
    ∙ ap (λ (ts : List SetRow). ts ++ filter (is_of_group g) rest) (passed_rows g h rows (run_rows h (run_segments r) both.0 of.0.each) (nat_list_eq_equiv.symm h g ∙ apart.0))
    ∙ other_runs g hs runs apart.1 of.1 both.1

-- the rows of each group are those of its run
abbrev pub HasRuns : List SetRow → List (List ℕ) → List Run → Type 0
HasRuns rows [] [] = Unit {0}
HasRuns rows [] (r ∷ runs) = ⊥
HasRuns rows (g ∷ gs) [] = ⊥
HasRuns rows (g ∷ gs) (r ∷ runs) = (filter (is_of_group g) rows ≡ flat_map rows_of_segment (run_segments r)) × HasRuns rows gs runs

none_behind : (g : List ℕ) (front own : List SetRow) (hs : List (List ℕ)) → AreOf g own → AllByRecursion (λ h. pointwise nat_eq g h ≡ false) hs → AllByRecursion (λ h. filter (is_of_group h) front ≡ []) hs →
    AllByRecursion (λ h. filter (is_of_group h) (front ++ own) ≡ []) hs
none_behind g front own [] of apart none = tt
none_behind g front own (h ∷ hs) of apart none = (
  filter-append (is_of_group h) front own ∙ ap (λ (ts : List SetRow). ts ++ filter (is_of_group h) own) none.0 ∙ passed_rows h g own of apart.0,
  none_behind g front own hs of apart.1 none.1,
)

pub runs_in : (front : List SetRow) (gs : List (List ℕ)) (runs : List Run) → IsDistinct (pointwise nat_eq) gs → AllByRecursion (λ g. filter (is_of_group g) front ≡ []) gs → AreRunsOf gs runs → AllByRecursion IsSegment (flat_map run_segments runs) →
    HasRuns (front ++ flat_map rows_of_segment (flat_map run_segments runs)) gs runs
runs_in front [] [] distinct none of are = tt
runs_in front [] (r ∷ runs) distinct none of are = absurd of
runs_in front (g ∷ gs) [] distinct none of are = absurd of
runs_in front (g ∷ gs) (r ∷ runs) distinct none of are =
    let both = split IsSegment (run_segments r) (flat_map run_segments runs) are in
    let own = flat_map rows_of_segment (run_segments r) in
    let rest = flat_map rows_of_segment (flat_map run_segments runs) in
    let apart = IsDistinct-head (pointwise nat_eq) g gs distinct in
    let own_of = run_rows g (run_segments r) both.0 of.0.each in
    let whole : flat_map rows_of_segment (flat_map run_segments (r ∷ runs)) ≡ own ++ rest = flat_map-append rows_of_segment (run_segments r) (flat_map run_segments runs) in (
      ap (λ (ts : List SetRow). filter (is_of_group g) (front ++ ts)) whole ∙ filter-append (is_of_group g) front (own ++ rest)
          ∙ ap (λ (ts : List SetRow). ts ++ filter (is_of_group g) (own ++ rest)) none.0 ∙ filter-append (is_of_group g) own rest
          ∙ ap (λ (ts : List SetRow). ts ++ filter (is_of_group g) rest) (kept_rows g own own_of) ∙ ap (λ (ts : List SetRow). own ++ ts) (other_runs g gs runs apart of.1 both.1) ∙ append-nil own,
      subst (λ (ts : List SetRow). HasRuns ts gs runs) (append_assoc front own rest ∙ ap (λ (ts : List SetRow). front ++ ts) (sym whole))
          (runs_in (front ++ own) gs runs (IsDistinct-tail (pointwise nat_eq) g gs distinct) (none_behind g front own gs own_of apart none.1) of.1 both.1),
    )

keys_of_rows : (ss : List Segment) → map (λ t. t.key) (flat_map rows_of_segment ss) ≡ segment_keys ss
keys_of_rows [] = refl
keys_of_rows (s ∷ ss) =
    map-append (λ (t : SetRow). t.key) (rows_of_segment s) (flat_map rows_of_segment ss)
    ∙ ap (λ (ks : List Key). ks ++ map (λ (t : SetRow). t.key) (flat_map rows_of_segment ss)) (own_keys s.parameters s.keys s.columns)
    ∙ ap (λ (ks : List Key). s.keys ++ ks) (keys_of_rows ss)

-- so they are in the order of the keys
pub runs_sorted : (mixed sorted : List SetRow) (gs : List (List ℕ)) (runs : List Run) → IsRising is_earlier sorted → IsPermutation mixed sorted → AreRunsOf gs runs → HasRuns mixed gs runs → HasRuns sorted gs runs
runs_sorted mixed sorted [] [] up same of has = tt
runs_sorted mixed sorted [] (r ∷ runs) up same of has = absurd of
runs_sorted mixed sorted (g ∷ gs) [] up same of has = absurd of
runs_sorted mixed sorted (g ∷ gs) (r ∷ runs) up same of has =
    let own = flat_map rows_of_segment (run_segments r) in
    let rises = rising_rows own (subst (IsStrictlySortedBy key_cmp) (sym (keys_of_rows (run_segments r))) of.0.rising) in
    (filtered_is (λ (t : SetRow). t.key) (is_of_group g) mixed sorted own (keep_rising (is_of_group g) sorted up) rises same has.0, runs_sorted mixed sorted gs runs up same of.1 has.1)

pub runs_again : (rows : List SetRow) (gs : List (List ℕ)) (runs : List Run) → AreRunsOf gs runs → HasRuns rows gs runs → AllByRecursion IsSegment (flat_map run_segments runs) → flat_map (group_segments rows) gs ≡ flat_map run_segments runs
runs_again rows [] [] of has are = refl
runs_again rows [] (r ∷ runs) of has are = absurd of
runs_again rows (g ∷ gs) [] of has are = absurd of
runs_again rows (g ∷ gs) (r ∷ runs) of has are =
    let both = split IsSegment (run_segments r) (flat_map run_segments runs) are in
    ap (λ (ss : List Segment). ss ++ flat_map (group_segments rows) gs) (run_again g r rows of.0 both.0 has.0) ∙ ap (λ (ss : List Segment). run_segments r ++ ss) (runs_again rows gs runs of.1 has.1 both.1)

-- ---- groups in the order of their first rows

pub or_first : (a b : Bool) → a ≡ true → (a || b) ≡ true
or_first true b e = refl
or_first false b e = cc

pub or_second : (a b : Bool) → b ≡ true → (a || b) ≡ true
or_second true b e = refl
or_second false b e = e

pub or_neither : (a b : Bool) → a ≡ false → b ≡ false → (a || b) ≡ false
or_neither true b e f = cc
or_neither false b e f = f

any_taken : (gs : List (List ℕ)) (n m : ℕ) → m < n → m < length gs → list_any (pointwise nat_eq (get_or gs m [])) (take n gs) ≡ true
any_taken [] n m lt within = absurd (omega arith)
any_taken (g ∷ gs) zero m lt within = absurd (omega arith)
any_taken (g ∷ gs) (suc n) zero lt within = or_first (pointwise nat_eq g g) (list_any (pointwise nat_eq g) (take n gs)) (itself g)
any_taken (g ∷ gs) (suc n) (suc m) lt within =
    let h = get_or gs m [] in or_second (pointwise nat_eq h g) (list_any (pointwise nat_eq h) (take n gs)) (any_taken gs n m (omega arith) (omega arith))

none_taken : (gs : List (List ℕ)) (n : ℕ) → IsDistinct (pointwise nat_eq) gs → n < length gs → list_any (pointwise nat_eq (get_or gs n [])) (take n gs) ≡ false
none_taken [] n distinct lt = absurd (omega arith)
none_taken (g ∷ gs) zero distinct lt = refl
none_taken (g ∷ gs) (suc n) distinct lt =
    let h = get_or gs n [] in
    let apart = each_at (λ (y : List ℕ). pointwise nat_eq g y ≡ false) gs n [] (IsDistinct-head (pointwise nat_eq) g gs distinct) (omega arith) in
    or_neither (pointwise nat_eq h g) (list_any (pointwise nat_eq h) (take n gs)) (nat_list_eq_equiv.symm h g ∙ apart) (none_taken gs n (IsDistinct-tail (pointwise nat_eq) g gs distinct) (omega arith))

pub known_group : (gs : List (List ℕ)) (n m : ℕ) → m < n → m < length gs → with_group (take n gs) (get_or gs m []) ≡ take n gs
known_group gs n m lt within = ap (λ (b : Bool). if b then take n gs else take n gs ++ get_or gs m [] ∷ []) (any_taken gs n m lt within)

pub next_group : (gs : List (List ℕ)) (n : ℕ) → IsDistinct (pointwise nat_eq) gs → n < length gs → with_group (take n gs) (get_or gs n []) ≡ take (n + 1) gs
next_group gs n distinct lt =
    ap (λ (b : Bool). if b then take n gs else take n gs ++ get_or gs n [] ∷ []) (none_taken gs n distinct lt) ∙ sym (ap (λ (k : ℕ). take k gs) (add-one n) ∙ take-suc gs n [] lt)

-- groups whose numbers come in order are all of them
groups_in_order : (gs : List (List ℕ)) → IsDistinct (pointwise nat_eq) gs → (n count : ℕ) (ms : List ℕ) → count_in_order n ms ≡ Some count → AllByRecursion (λ m. m < length gs) ms → fold with_group (take n gs) (map (numbered_group gs) ms) ≡ take count gs
groups_in_order gs distinct n count [] e within = ap (λ (k : ℕ). take k gs) (same_Some n count e)
groups_in_order gs distinct n count (m ∷ ms) e within =
    let first = λ (b : Bool). if b then count_in_order n ms else (if m == n then count_in_order (n + 1) ms else None) in
    let second = λ (b : Bool). if b then count_in_order (n + 1) ms else None in
    let rest = λ (hs : List (List ℕ)). fold with_group hs (map (numbered_group gs) ms) in
    elim (cases_Bool (nat_lt m n)) [
      | inl is ↦ ap rest (known_group gs n m (ltb-true m n is) within.0) ∙ groups_in_order gs distinct n count ms (sym (ap first is) ∙ e) within.1
      | inr isnt ↦
          let other : second (m == n) ≡ Some count = sym (ap first isnt) ∙ e in
          elim (cases_Bool (m == n)) [
            | inl same ↦
                let at : m ≡ n = eqb-true m n same in
                let lt : n < length gs = subst (λ (k : ℕ). k < length gs) at within.0 in
                ap rest (ap (λ (k : ℕ). with_group (take n gs) (get_or gs k [])) at ∙ next_group gs n distinct lt) ∙ groups_in_order gs distinct (n + 1) count ms (sym (ap second same) ∙ other) within.1
            | inr apart ↦ absurd (let bad : ◌≡◌ {A = Option ℕ} None (Some count) = sym (ap second apart) ∙ other in cc)
          ]
    ]

-- ---- the rows at places

numbered_parameters : (segments : List Segment) (gs : List (List ℕ)) (numbers : List ℕ) (j : ℕ) → j < length segments → map (numbered_group gs) numbers ≡ map (λ s. s.parameters) segments → numbered_group gs (get_or numbers j 0) ≡ (numbered_segment segments j).parameters
numbered_parameters segments gs numbers j lt is =
    let none : Segment = segment_of [] [] in
    let parameters : Segment → List ℕ = λ s. s.parameters in
    let inside : j < length (map parameters segments) = subst (λ (n : ℕ). j < n) (sym (length-map segments parameters)) lt in
    sym (get_or-map (numbered_group gs) numbers j 0) ∙ ap (λ (hs : List (List ℕ)). get_or hs j (numbered_group gs 0)) is
    ∙ next_default (map parameters segments) j (numbered_group gs 0) (parameters none) inside ∙ get_or-map parameters segments j none

placed_group : (segments : List Segment) (gs : List (List ℕ)) (numbers : List ℕ) (p : RowPlace) → AllByRecursion IsSegment segments → IsRowPlace segments p → map (numbered_group gs) numbers ≡ map (λ s. s.parameters) segments →
    row_parameters (placed_row segments p) ≡ numbered_group gs (place_group numbers p)
placed_group segments gs numbers p sound is numbered =
    let s = numbered_segment segments p.segment in
    let own = segment_there segments p sound is in
    parameters_again s.parameters (map (raw_in_row p.row) s.columns) (length-map s.columns (raw_in_row p.row) ∙ own.column_count) ∙ sym (numbered_parameters segments gs numbers p.segment is.segment numbered)

pub placed_groups : (segments : List Segment) (gs : List (List ℕ)) (numbers : List ℕ) (places : List RowPlace) → AllByRecursion IsSegment segments → AllByRecursion (IsRowPlace segments) places → map (numbered_group gs) numbers ≡ map (λ s. s.parameters) segments →
    map row_parameters (map (placed_row segments) places) ≡ map (numbered_group gs) (map (place_group numbers) places)
placed_groups segments gs numbers [] sound are numbered = refl
placed_groups segments gs numbers (p ∷ ps) sound are numbered =
    ap (λ (g : List ℕ). g ∷ map row_parameters (map (placed_row segments) ps)) (placed_group segments gs numbers p sound are.0 numbered)
    ∙ ap (λ (hs : List (List ℕ)). numbered_group gs (place_group numbers p) ∷ hs) (placed_groups segments gs numbers ps sound are.1 numbered)

pub groups_within : (segments : List Segment) (gs : List (List ℕ)) (numbers : List ℕ) (places : List RowPlace) → length numbers ≡ length segments → AllByRecursion (λ m. m < length gs) numbers → AllByRecursion (IsRowPlace segments) places →
    AllByRecursion (λ m. m < length gs) (map (place_group numbers) places)
groups_within segments gs numbers [] len within are = tt
groups_within segments gs numbers (p ∷ ps) len within are =
    (each_at (λ (m : ℕ). m < length gs) numbers p.segment 0 within (let lt = are.0.segment in omega (arith, lt, len)), groups_within segments gs numbers ps len within are.1)

pub nothing_in : (gs : List (List ℕ)) → AllByRecursion (λ g. filter (is_of_group g) [] ≡ []) gs
nothing_in [] = tt
nothing_in (g ∷ gs) = (refl, nothing_in gs)

-- the set of the rows at all places, in the order of their keys, is the segments
pub set_again : (segments : List Segment) (places : List RowPlace) (gs : List (List ℕ)) (numbers : List ℕ) → AllByRecursion IsSegment segments → AllByRecursion (IsRowPlace segments) places → IsPermutation (places_from 0 segments) places →
    IsStrictlySortedBy key_cmp (map (λ (p : RowPlace). p.key) places) → AreRuns segments gs numbers → count_in_order 0 (map (place_group numbers) places) ≡ Some (length gs) → set_of (map (placed_row segments) places) ≡ segments
set_again segments places gs numbers sound are same up runs order =
    let f = placed_row segments in
    let rows = map f places in
    let rises = rising_rows rows (subst (IsStrictlySortedBy key_cmp) (sym (placed_keys segments places)) up) in
    let mixed = flat_map rows_of_segment segments in
    let turned : IsPermutation mixed rows = subst (λ (ts : List SetRow). IsPermutation ts rows) (rows_at_places segments) (IsPermutation-map f (places_from 0 segments) places same) in
    let all = runs.runs.0 in
    let joined : flat_map run_segments all ≡ segments = runs.runs.2 in
    let each : AllByRecursion IsSegment (flat_map run_segments all) = subst (AllByRecursion IsSegment) (sym joined) sound in
    let in_mixed : HasRuns mixed gs all = subst (λ (ss : List Segment). HasRuns (flat_map rows_of_segment ss) gs all) joined (runs_in [] gs all runs.distinct (nothing_in gs) runs.runs.1 each) in
    let in_rows : HasRuns rows gs all = runs_sorted mixed rows gs all rises turned runs.runs.1 in_mixed in
    let len : length numbers ≡ length segments = sym (length-map numbers (numbered_group gs)) ∙ ap length runs.numbered ∙ length-map segments (λ s. s.parameters) in
    let groups : groups_of rows ≡ gs =
    ap (fold with_group []) (placed_groups segments gs numbers places sound are runs.numbered)
    ∙ groups_in_order gs runs.distinct 0 (length gs) (map (place_group numbers) places) order (groups_within segments gs numbers places len runs.within are) ∙ take_all (length gs) gs (omega arith) in
    ap (flat_map (group_segments rows)) groups ∙ runs_again rows gs all runs.runs.1 in_rows each ∙ joined

-- ---- spelled as they were

pub each_placed : (segments : List Segment) (places : List RowPlace) → AllByRecursion IsSegment segments → AllByRecursion (IsRowPlace segments) places → AllByRecursion IsSetRow (map (placed_row segments) places)
each_placed segments [] sound are = tt
each_placed segments (p ∷ ps) sound are = (placed_is_row segments p sound are.0, each_placed segments ps sound are.1)

pub placed_rows_are : (segments : List Segment) (places : List RowPlace) → AllByRecursion IsSegment segments → AllByRecursion (IsRowPlace segments) places → IsStrictlySortedBy key_cmp (map (λ (p : RowPlace). p.key) places) → AreSetRows (map (placed_row segments) places)
placed_rows_are segments places sound placed up = record { each = each_placed segments places sound placed; rising = subst (IsStrictlySortedBy key_cmp) (sym (placed_keys segments places)) up }
