-- The cells of a column are those of the segment's rows, and of a set those of its rows.
use Rattle.std.proofs.Common.{◌≡◌, ◌∙◌, ℕ, zero, suc, ◌<◌, ℤ, pos, List, [], ◌∷◌, ◌++◌, length, map, get_or, Bool, true, false, cond, Option, Some, None, refl, sym, ap, subst, arith}
use Rattle.std.specs.Prelude.{◌==◌, find, filter, flat_map, option_map}
use Rattle.std.specs.List.{AllByRecursion, position, cons_option, filter_map}
use Rattle.std.specs.List.Sorted.{IsPermutation, IsSortedBy, IsStrictlySortedBy}
use Rattle.std.specs.Ordering.{is_lt, ordering_then}
use Rattle.std.specs.declared.cmp.Ordering.{Ordering}
use Rattle.std.specs.declared.cmp.Ordering.TheVariants.{Less, Equal, Greater}
use Rattle.std.proofs.lemmas.List.{length-map}
use Rattle.arch_types.specs.declared.key.Key.{Key}
use Rattle.arch_types.specs.Order.{key_cmp, order_by}
use Rattle.std.proofs.lemmas.List.Sorted.{IsPermutation-sym}
use Rattle.std.proofs.lemmas.Map.Keys.{sorted_head, sorted_tail}
use Rattle.param_segments.proofs.Grouped.{rows_of_groups}
use Rattle.param_segments.proofs.CellOrder.{Keeps, own_key, cells_in_order, cells_same}
use Rattle.param_segments.proofs.Sorting.{sorted_is}
use Rattle.container_extract.proofs.Positions.{position_cons}
use Rattle.std.proofs.lemmas.List.Quantifiers.{position-Some}
use Rattle.segment_codec.specs.OneColumn.{column_there}
use Rattle.segment_codec.specs.RawColumn.{IsRawColumn}
use Rattle.segment_codec.specs.Segment.{IsSegment}
use Rattle.param_segments.proofs.Stored.{set_is_segments}
use Rattle.param_segments.specs.Rows.{SetRow, AreSetRows}
use Rattle.param_segments.specs.Groups.{is_of_group, groups_of, set_of}
use Rattle.param_segments.specs.Segments.{column_head, column_tail, values_from, rows_from, rows_of_segment}
use Rattle.param_segments.specs.Cells.{raw_cell, raw_cell_of, cells_from, column_cells, is_cell_earlier, segment_cells}
use Rattle.segment_codec.specs.declared.segment.Segment.{Segment}
use Rattle.container_extract.specs.declared.values.RawValue.{RawValue}
use Rattle.param_segments.specs.declared.raw_cell.RawCell.{RawCell}

-- ---- a value among the values of a row

abbrev value_at : List ℕ → List ℤ → Option ℕ → Option RawValue
value_at ps rs None = None
value_at ps rs (Some j) = Some (record { parameter = get_or ps j 0; raw = get_or rs j (pos 0) })

next_value : (p : ℕ) (ps : List ℕ) (r : ℤ) (rs : List ℤ) (o : Option ℕ) → value_at (p ∷ ps) (r ∷ rs) (option_map suc o) ≡ value_at ps rs o
next_value p ps r rs None = refl
next_value p ps r rs (Some j) = refl

find_cases : (p : ℕ) (ps : List ℕ) (r : ℤ) (rs : List ℤ) (q : ℕ) (b : Bool) (o : Option ℕ) (f : Option RawValue) → f ≡ value_at ps rs o →
    cond b (Some (record { parameter = p; raw = r })) f ≡ value_at (p ∷ ps) (r ∷ rs) (cond b (Some 0) (option_map suc o))
find_cases p ps r rs q true o f e = refl
find_cases p ps r rs q false o f e = e ∙ sym (next_value p ps r rs o)

found_value : (q : ℕ) (ps : List ℕ) (rs : List ℤ) → length rs ≡ length ps → find (λ v. v.parameter == q) (values_from ps rs) ≡ value_at ps rs (position (λ p. p == q) ps)
found_value q [] rs e = refl
found_value q (p ∷ ps) [] e = absurd (omega (arith, e))
found_value q (p ∷ ps) (r ∷ rs) e =
    find_cases p ps r rs q (p == q) (position (λ p. p == q) ps) (find (λ v. v.parameter == q) (values_from ps rs)) (found_value q ps rs (omega (arith, e)))
    ∙ ap (value_at (p ∷ ps) (r ∷ rs)) (sym (position_cons (λ p. p == q) p ps))

-- ---- a column

abbrev cells_at_place : List Key → List (List ℤ) → Option ℕ → List RawCell
cells_at_place ks cs None = []
cells_at_place ks cs (Some j) = cells_from ks (get_or cs j [])

firsts_at : (cs : List (List ℤ)) (j : ℕ) → get_or (map column_head cs) j (pos 0) ≡ column_head (get_or cs j [])
firsts_at [] j = refl
firsts_at (c ∷ cs) zero = refl
firsts_at (c ∷ cs) (suc j) = firsts_at cs j

rests_at : (cs : List (List ℤ)) (j : ℕ) → get_or (map column_tail cs) j [] ≡ column_tail (get_or cs j [])
rests_at [] j = refl
rests_at (c ∷ cs) zero = refl
rests_at (c ∷ cs) (suc j) = rests_at cs j

pub long_at : (n : ℕ) (cs : List (List ℤ)) (j : ℕ) → j < length cs → AllByRecursion (λ c. length c ≡ n) cs → length (get_or cs j []) ≡ n
long_at n [] j lt all = absurd (omega arith)
long_at n (c ∷ cs) zero lt all = all.0
long_at n (c ∷ cs) (suc j) lt all = long_at n cs j (omega arith) all.1

pub rests_long : (n : ℕ) (cs : List (List ℤ)) → AllByRecursion (λ c. length c ≡ suc n) cs → AllByRecursion (λ c. length c ≡ n) (map column_tail cs)
rests_long n [] all = tt
rests_long n ([] ∷ cs) all = absurd (let e = all.0 in omega arith)
rests_long n ((r ∷ rs) ∷ cs) all = (let e = all.0 in omega arith, rests_long n cs all.1)

one_cell : (k : Key) (ks : List Key) (c : List ℤ) → length c ≡ suc (length ks) → cells_from (k ∷ ks) c ≡ record { key = k; raw = column_head c } ∷ cells_from ks (column_tail c)
one_cell k ks [] e = absurd (omega (arith, e))
one_cell k ks (r ∷ rs) e = refl

cell_cases : (k : Key) (ks : List Key) (ps : List ℕ) (cs : List (List ℤ)) (o : Option ℕ) → ((j : ℕ) → o ≡ Some j → j < length cs) → AllByRecursion (λ c. length c ≡ suc (length ks)) cs →
    cons_option (option_map (raw_cell k) (value_at ps (map column_head cs) o)) (cells_at_place ks (map column_tail cs) o) ≡ cells_at_place (k ∷ ks) cs o
cell_cases k ks ps cs None below long = refl
cell_cases k ks ps cs (Some j) below long =
    let c = get_or cs j [] in
    ap (λ (z : ℤ). let x : RawCell = record { key = k; raw = z } in x ∷ cells_from ks (get_or (map column_tail cs) j [])) (firsts_at cs j)
    ∙ ap (λ (rs : List ℤ). let x : RawCell = record { key = k; raw = column_head c } in x ∷ cells_from ks rs) (rests_at cs j)
    ∙ sym (one_cell k ks c (long_at (suc (length ks)) cs j (below j refl) long))

pub column_is_cells : (q : ℕ) (ps : List ℕ) (ks : List Key) (cs : List (List ℤ)) → ((j : ℕ) → position (λ p. p == q) ps ≡ Some j → j < length cs) → length cs ≡ length ps → AllByRecursion (λ c. length c ≡ length ks) cs →
    filter_map (raw_cell_of q) (rows_from ps ks cs) ≡ cells_at_place ks cs (position (λ p. p == q) ps)
column_is_cells q ps [] cs below wide long = nothing (position (λ p. p == q) ps)
  where
    nothing : (o : Option ℕ) → [] ≡ cells_at_place [] cs o
    nothing None = refl
    nothing (Some j) = refl
column_is_cells q ps (k ∷ ks) cs below wide long =
    let o = position (λ p. p == q) ps in
    let more = column_is_cells q ps ks (map column_tail cs) (λ j e. subst (λ (n : ℕ). j < n) (sym (length-map cs column_tail)) (below j e)) (length-map cs column_tail ∙ wide) (rests_long (length ks) cs long) in
    ap (λ (v : Option RawValue). cons_option (option_map (raw_cell k) v) (filter_map (raw_cell_of q) (rows_from ps ks (map column_tail cs)))) (found_value q ps (map column_head cs) (length-map cs column_head ∙ wide))
    ∙ ap (λ (xs : List RawCell). cons_option (option_map (raw_cell k) (value_at ps (map column_head cs) o)) xs) more
    ∙ cell_cases k ks ps cs o below long

by_place : (q : ℕ) (s : Segment) (o : Option ℕ) → column_cells (option_map (column_there s) o) ≡ cells_at_place s.keys s.columns o
by_place q s None = refl
by_place q s (Some j) = refl

pub lengths : (n : ℕ) (cs : List (List ℤ)) → AllByRecursion (IsRawColumn n) cs → AllByRecursion (λ c. length c ≡ n) cs
lengths n [] all = tt
lengths n (c ∷ cs) all = (all.0.0, lengths n cs all.1)

-- the cells of a parameter's column are those of the segment's rows
pub segment_is_cells : (q : ℕ) (s : Segment) → IsSegment s → segment_cells q s ≡ filter_map (raw_cell_of q) (rows_of_segment s)
segment_is_cells q s is =
    let wide = is.column_count in
    by_place q s (position (λ p. p == q) s.parameters)
    ∙ sym (column_is_cells q s.parameters s.keys s.columns
    (λ j e. subst (λ (n : ℕ). j < n) (sym wide) (position-Some (λ p. p == q) s.parameters j 0 e).0)
    wide (lengths (length s.keys) s.columns is.columns))

each_is_cells : (q : ℕ) (ss : List Segment) → AllByRecursion IsSegment ss → flat_map (segment_cells q) ss ≡ flat_map (λ s. filter_map (raw_cell_of q) (rows_of_segment s)) ss
each_is_cells q [] all = refl
each_is_cells q (s ∷ ss) all =
    ap (λ (cs : List RawCell). cs ++ flat_map (segment_cells q) ss) (segment_is_cells q s all.0)
    ∙ ap (λ (cs : List RawCell). filter_map (raw_cell_of q) (rows_of_segment s) ++ cs) (each_is_cells q ss all.1)

-- ---- all of them

join_option : (o : Option RawCell) (xs ys : List RawCell) → cons_option o (xs ++ ys) ≡ cons_option o xs ++ ys
join_option None xs ys = refl
join_option (Some c) xs ys = refl

join_cells : (f : SetRow → Option RawCell) (xs ys : List SetRow) → filter_map f (xs ++ ys) ≡ filter_map f xs ++ filter_map f ys
join_cells f [] ys = refl
join_cells f (x ∷ xs) ys = ap (cons_option (f x)) (join_cells f xs ys) ∙ join_option (f x) (filter_map f xs) (filter_map f ys)

flat_cells : {X : Type 0} (f : SetRow → Option RawCell) (h : X → List SetRow) (xs : List X) → flat_map (λ x. filter_map f (h x)) xs ≡ filter_map f (flat_map h xs)
flat_cells f h [] = refl
flat_cells f h (x ∷ xs) = ap (λ (ys : List RawCell). filter_map f (h x) ++ ys) (flat_cells f h xs) ∙ sym (join_cells f (h x) (flat_map h xs))

-- cells of rows, segment by segment, are those group by group
pub cells_of_groups : (f : SetRow → Option RawCell) (ts : List SetRow) → flat_map (λ s. filter_map f (rows_of_segment s)) (set_of ts) ≡ flat_map (λ g. filter_map f (filter (is_of_group g) ts)) (groups_of ts)
cells_of_groups f ts = flat_cells f rows_of_segment (set_of ts) ∙ ap (filter_map f) (rows_of_groups ts (groups_of ts)) ∙ sym (flat_cells f (λ g. filter (is_of_group g) ts) (groups_of ts))

pub gathered_are : (q : ℕ) (ts : List SetRow) → AreSetRows ts → flat_map (segment_cells q) (set_of ts) ≡ flat_map (λ g. filter_map (raw_cell_of q) (filter (is_of_group g) ts)) (groups_of ts)
gathered_are q ts are = each_is_cells q (set_of ts) (set_is_segments ts are) ∙ cells_of_groups (raw_cell_of q) ts

-- the cells of the rows of each segment, put in the order of their keys, are those of the rows
pub segments_make_cells : (q : ℕ) (ts : List SetRow) → AreSetRows ts → order_by is_cell_earlier (flat_map (λ s. filter_map (raw_cell_of q) (rows_of_segment s)) (set_of ts)) ≡ filter_map (raw_cell_of q) ts
segments_make_cells q ts are = ap (order_by is_cell_earlier) (cells_of_groups (raw_cell_of q) ts) ∙ cells_in_order ts q are

-- ---- sorted

abbrev cell_keys : List RawCell → List Key
cell_keys cs = map (λ c. c.key) cs

later_cases : (f : SetRow → Option RawCell) (k : Key) (t : SetRow) (o : Option RawCell) (cs : List RawCell) → Keeps f → f t ≡ o → key_cmp k t.key ≡ Less → AllByRecursion (λ y. key_cmp k y ≡ Less) (cell_keys cs) → AllByRecursion (λ y. key_cmp k y ≡ Less) (cell_keys (cons_option o cs))
later_cases f k t None cs keeps e h all = all
later_cases f k t (Some c) cs keeps e h all = (ap (key_cmp k) (keeps t c e) ∙ h, all)

all_later : (f : SetRow → Option RawCell) (k : Key) (ts : List SetRow) → Keeps f → AllByRecursion (λ y. key_cmp k y ≡ Less) (map (λ t. t.key) ts) → AllByRecursion (λ y. key_cmp k y ≡ Less) (cell_keys (filter_map f ts))
all_later f k [] keeps all = tt
all_later f k (t ∷ ts) keeps all = later_cases f k t (f t) (filter_map f ts) keeps refl all.0 (all_later f k ts keeps all.1)

rise_cases : (f : SetRow → Option RawCell) (t : SetRow) (o : Option RawCell) (cs : List RawCell) → Keeps f → f t ≡ o → AllByRecursion (λ y. key_cmp t.key y ≡ Less) (cell_keys cs) → IsStrictlySortedBy key_cmp (cell_keys cs) → IsStrictlySortedBy key_cmp (cell_keys (cons_option o cs))
unfolding IsStrictlySortedBy
rise_cases f t None cs keeps e all up = up
rise_cases f t (Some c) cs keeps e all up = (subst (λ (k : Key). AllByRecursion (λ y. key_cmp k y ≡ Less) (cell_keys cs)) (sym (keeps t c e)) all, up)

nothing_rises : IsStrictlySortedBy key_cmp []
unfolding IsStrictlySortedBy
nothing_rises = tt

pub cells_rise : (f : SetRow → Option RawCell) (ts : List SetRow) → Keeps f → IsStrictlySortedBy key_cmp (map (λ t. t.key) ts) → IsStrictlySortedBy key_cmp (cell_keys (filter_map f ts))
cells_rise f [] keeps up = nothing_rises
cells_rise f (t ∷ ts) keeps up =
    rise_cases f t (f t) (filter_map f ts) keeps refl (all_later f t.key ts keeps (sorted_head key_cmp t.key (map (λ t. t.key) ts) up)) (cells_rise f ts keeps (sorted_tail key_cmp t.key (map (λ t. t.key) ts) up))

pub then_false : (o p : Ordering) → is_lt (ordering_then o p) ≡ false → is_lt o ≡ false
then_false Less p e = e
then_false Equal p e = refl
then_false Greater p e = refl

pub no_cell : RawCell
no_cell = record { key = record { time = pos 0; seq = 0 }; raw = pos 0 }

-- what is gathered, sorted by key, are the cells of the rows
pub cells_are : (q : ℕ) (ts : List SetRow) (mixed sorted : List RawCell) → AreSetRows ts → mixed ≡ flat_map (segment_cells q) (set_of ts) → IsPermutation mixed sorted → IsSortedBy is_cell_earlier sorted → sorted ≡ filter_map (raw_cell_of q) ts
cells_are q ts mixed sorted are is same up =
    let all = filter_map (raw_cell_of q) ts in
    let whole : IsPermutation mixed all = subst (λ (xs : List RawCell). IsPermutation xs all) (sym (is ∙ gathered_are q ts are)) (cells_same ts q are) in
    sorted_is (λ (c : RawCell). c.key) no_cell all mixed sorted (cells_rise (raw_cell_of q) ts (own_key q) are.rising) (IsPermutation-sym mixed all whole) same up
