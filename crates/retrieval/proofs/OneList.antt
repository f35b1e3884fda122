-- The intervals of a range are one list.
use Rattle.std.proofs.Common.{◌≡◌, ℕ, ℤ, ◌≤ℤ◌, ◌<ℤ◌, List, [], ◌∷◌, ◌++◌, Bool, true, false, cond, Option, Some, None, true≢false, refl, sym, ◌∙◌, ap, subst, arith}
use Rattle.std.specs.Prelude.{fold, filter, not, int_lt, if◌then◌else◌, IsSome, ◌==◌, ◌&&◌, ◌||◌}
use Rattle.std.specs.Option.{is_some}
use Rattle.std.specs.Ordering.{int_eq}
use Rattle.std.specs.List.{AllByRecursion, list_any}
use Rattle.std.proofs.lemmas.Bool.{and_parts, eq-eqb, eqb-true, false_from_ne_true}
use Rattle.std.proofs.lemmas.Bool.Decides.{Decides-int_eq}
use Rattle.std.proofs.lemmas.Int.{ints}
use Rattle.std.proofs.lemmas.List.Folds.{list_any-append}
use Rattle.intervals.specs.declared.interval.Interval.{Interval}
use Rattle.arch_types.specs.declared.row.Row.{Row}
use Rattle.arch_types.specs.History.{is_in_table}
use Rattle.intervals.specs.Interval.{interval_of, interval_end, interval_start}
use Rattle.arch_types.specs.Order.{is_before, place_by}
use Rattle.arch_types.specs.Table.{table_of}
use Rattle.arch_types.proofs.Ordered.{IsAscending}
use Rattle.history_items.specs.Fills.{is_same}
use Rattle.history_items.specs.declared.items.Item.{Item}
use Rattle.history_items.specs.Items.{is_of_interval, is_row_of_interval, rows_in}
use Rattle.history_items.specs.Late.{IsLastIn, last_in}
use Rattle.history_items.proofs.ItemLists.{any_row_with}
use Rattle.history_items.proofs.Late.{last_is_greatest, no_row, some_row}
use Rattle.interval_fills.proofs.Steps.{same_interval}
use Rattle.interval_walks.specs.Counts.{row_interval, with_interval}
use Rattle.interval_walks.specs.Turns.{CoverRange, IntervalsRise, MeetsRange, meets_range}
use Rattle.interval_walks.proofs.Covering.{AllBelow, rising_push}
use Rattle.interval_walks.proofs.Rising.{interval_rises, not_before, table_ascending}
use Rattle.archive_store.specs.Plans.{IsRangeInterval}
use Rattle.archive_store.proofs.Planning.{rise_filtered}
use Rattle.retrieval.specs.FilledAnswer.{intervals_of_range, intervals_of_rows}

-- ---- truth values

or_false : (a : Bool) → (a || false) ≡ a
or_false true = refl
or_false false = refl

or_swap : (a b c : Bool) → (a || (b || c)) ≡ (b || (a || c))
or_swap true true c = refl
or_swap true false c = refl
or_swap false b c = refl

or_moved : (a b c : Bool) → ((a || b) || c) ≡ (b || (a || c))
or_moved true true c = refl
or_moved true false c = refl
or_moved false b c = refl

or_grouped : (a b c : Bool) → ((a || b) || c) ≡ (a || (b || c))
or_grouped true b c = refl
or_grouped false b c = refl

neither : (a b : Bool) → (a || b) ≡ false → (a ≡ false) × (b ≡ false)
neither true b e = absurd (true≢false e)
neither false b e = (refl, e)

both_ways : (a b : Bool) → (a ≡ true → b ≡ true) → (b ≡ true → a ≡ true) → a ≡ b
both_ways true b there back = sym (there refl)
both_ways false true there back = back refl
both_ways false false there back = refl

flipped : (a b : ℤ) → int_eq a b ≡ int_eq b a
flipped a b = both_ways (int_eq a b) (int_eq b a) (λ e. (Decides-int_eq b a).1 (sym ((Decides-int_eq a b).0 e))) (λ e. (Decides-int_eq a b).1 (sym ((Decides-int_eq b a).0 e)))

-- ---- whether a row of an interval is among rows

-- among rows in the order of their keys as among the rows of the table
place_any : (p : Row → Bool) (x : Row) (xs : List Row) → list_any p (place_by is_before xs x) ≡ (p x || list_any p xs)
place_any p x [] = refl
place_any p x (y ∷ ys) = go (is_before x y) (place_any p x ys)
  where
    go : (b : Bool) → list_any p (place_by is_before ys x) ≡ (p x || list_any p ys) → list_any p (if b then x ∷ y ∷ ys else y ∷ place_by is_before ys x) ≡ (p x || (p y || list_any p ys))
    go true rest = refl
    go false rest = ap (λ (t : Bool). p y || t) rest ∙ or_swap (p y) (p x) (list_any p ys)

order_any : (p : Row → Bool) (sorted rows : List Row) → list_any p (fold (place_by is_before) sorted rows) ≡ (list_any p sorted || list_any p rows)
order_any p sorted [] = sym (or_false (list_any p sorted))
order_any p sorted (row ∷ rows) =
    order_any p (place_by is_before sorted row) rows ∙ ap (λ (t : Bool). t || list_any p rows) (place_any p row sorted) ∙ or_moved (p row) (list_any p sorted) (list_any p rows)

kept_any : (p : Row → Bool) → ((row : Row) → is_in_table 0 row ≡ false → p row ≡ false) → (rows : List Row) → list_any p (filter (is_in_table 0) rows) ≡ list_any p rows
kept_any p outside [] = refl
kept_any p outside (row ∷ rows) = go (is_in_table 0 row) refl (kept_any p outside rows)
  where
    go : (b : Bool) → is_in_table 0 row ≡ b → list_any p (filter (is_in_table 0) rows) ≡ list_any p rows → list_any p (cond b (row ∷ filter (is_in_table 0) rows) (filter (is_in_table 0) rows)) ≡ (p row || list_any p rows)
    go true inside rest = ap (λ (t : Bool). p row || t) rest
    go false out rest = rest ∙ sym (ap (λ (t : Bool). t || list_any p rows) (outside row out))

zero_flipped : (t : ℕ) → (t == 0) ≡ (0 == t)
zero_flipped t = both_ways (t == 0) (0 == t) (λ e. eq-eqb 0 t (sym (eqb-true t 0 e))) (λ e. eq-eqb t 0 (sym (eqb-true 0 t e)))

table_any : (exponent : ℕ) (i : Interval) (rows : List Row) → list_any (is_of_interval exponent i) (table_of 0 rows) ≡ list_any (is_of_interval exponent i) rows
table_any exponent i rows =
    order_any (is_of_interval exponent i) [] (filter (is_in_table 0) rows)
    ∙ kept_any (is_of_interval exponent i) (λ row out. ap (λ (t : Bool). t && int_eq (interval_of exponent row.key.time) i.0) (zero_flipped row.table ∙ out)) rows

-- an interval has a last change where it has a row
last_any : (exponent : ℕ) (i : Interval) (history : List Item) → is_some (last_in exponent i history) ≡ list_any (is_row_of_interval exponent i) history
last_any exponent i history = go (last_in exponent i history) (last_is_greatest exponent i history) (list_any (is_row_of_interval exponent i) history) refl
  where
    go : (o : Option ℕ) → IsLastIn exponent i history o → (b : Bool) → list_any (is_row_of_interval exponent i) history ≡ b → is_some o ≡ b
    go None never true any = absurd (never (some_row exponent i history any))
    go None never false any = refl
    go (Some l) last true any = refl
    go (Some l) last false any = absurd (no_row exponent i history last.0.position any last.0.stands)

-- ---- the intervals that have rows

-- an interval is among them where one of its rows is there
with_any : (exponent : ℕ) (i : Interval) (so_far : List Interval) (row : Row) → list_any (is_same i) (with_interval exponent so_far row) ≡ (list_any (is_same i) so_far || is_of_interval exponent i row)
with_any exponent i so_far row = go (row.table == 0) (list_any (is_same j) so_far) refl
  where
    j : Interval
    j = row_interval exponent row

    there : Bool
    there = list_any (is_same i) so_far

    -- one that is there already adds nothing
    known : (b : Bool) → int_eq j.0 i.0 ≡ b → list_any (is_same j) so_far ≡ true → there ≡ (there || b)
    known true same has =
        let is : there ≡ true = subst (λ (k : Interval). list_any (is_same k) so_far ≡ true) (same_interval j i same) has in
        is ∙ sym (ap (λ (t : Bool). t || true) is)
    known false other has = sym (or_false there)

    go : (tm has : Bool) → list_any (is_same j) so_far ≡ has → list_any (is_same i) (if tm && not has then so_far ++ j ∷ [] else so_far) ≡ (there || (tm && int_eq j.0 i.0))
    go false has e = sym (or_false there)
    go true true e = known (int_eq j.0 i.0) refl e
    go true false e = list_any-append (is_same i) so_far (j ∷ []) ∙ ap (λ (t : Bool). there || t) (or_false (is_same i j) ∙ flipped i.0 j.0)

fold_any : (exponent : ℕ) (i : Interval) (so_far : List Interval) (rows : List Row) → list_any (is_same i) (fold (with_interval exponent) so_far rows) ≡ (list_any (is_same i) so_far || list_any (is_of_interval exponent i) rows)
fold_any exponent i so_far [] = sym (or_false (list_any (is_same i) so_far))
fold_any exponent i so_far (row ∷ rows) =
    fold_any exponent i (with_interval exponent so_far row) rows ∙ ap (λ (t : Bool). t || list_any (is_of_interval exponent i) rows) (with_any exponent i so_far row)
    ∙ or_grouped (list_any (is_same i) so_far) (is_of_interval exponent i row) (list_any (is_of_interval exponent i) rows)

in_order_any : (exponent : ℕ) (i : Interval) (history : List Item) → list_any (is_same i) (intervals_of_rows exponent (table_of 0 (rows_in history))) ≡ is_some (last_in exponent i history)
in_order_any exponent i history =
    fold_any exponent i [] (table_of 0 (rows_in history)) ∙ table_any exponent i (rows_in history) ∙ sym (any_row_with (is_of_interval exponent i) history) ∙ sym (last_any exponent i history)

-- they rise, since the rows do
below_all : (i : Interval) (is : List Interval) → AllByRecursion (λ j. j.0 ≤ℤ i.0) is → list_any (is_same i) is ≡ false → AllBelow is i.0
below_all i [] all none = tt
below_all i (j ∷ is) all none =
    let p = neither (is_same i j) (list_any (is_same i) is) none in
    let other : i.0 ≡ j.0 → ⊥ = λ same. true≢false (sym ((Decides-int_eq i.0 j.0).1 same) ∙ p.0) in
    let le = all.0 in
    (omega (arith, ints, le, other), below_all i is all.1 p.1)

-- intervals so far are no later than rows
abbrev NoLater : ℕ → List Interval → List Row → Type 0
NoLater exponent so_far rows = AllByRecursion (λ row. AllByRecursion (λ j. j.0 ≤ℤ interval_of exponent row.key.time) so_far) rows

at_most_push : (t : ℤ) (is : List Interval) (i : Interval) → AllByRecursion (λ j. j.0 ≤ℤ t) is → i.0 ≤ℤ t → AllByRecursion (λ j. j.0 ≤ℤ t) (is ++ i ∷ [])
at_most_push t [] i all here = (here, tt)
at_most_push t (j ∷ is) i all here = (all.0, at_most_push t is i all.1 here)

no_later_push : (exponent : ℕ) (so_far : List Interval) (row : Row) (rows : List Row) → NoLater exponent so_far rows → AllByRecursion (λ z. is_before z row ≡ false) rows → NoLater exponent (so_far ++ row_interval exponent row ∷ []) rows
no_later_push exponent so_far row [] all up = tt
no_later_push exponent so_far row (z ∷ rows) all up =
    (at_most_push (interval_of exponent z.key.time) so_far (row_interval exponent row) all.0 (interval_rises exponent row.key.time z.key.time (not_before z row up.0)), no_later_push exponent so_far row rows all.1 up.1)

with_rises : (exponent : ℕ) (so_far : List Interval) (row : Row) (rows : List Row) → IntervalsRise so_far → AllByRecursion (λ j. j.0 ≤ℤ interval_of exponent row.key.time) so_far → NoLater exponent so_far rows → AllByRecursion (λ z. is_before z row ≡ false) rows
    → IntervalsRise (with_interval exponent so_far row) × NoLater exponent (with_interval exponent so_far row) rows
with_rises exponent so_far row rows rising here later up = go (row.table == 0) (list_any (is_same j) so_far) refl
  where
    j : Interval
    j = row_interval exponent row

    go : (tm has : Bool) → list_any (is_same j) so_far ≡ has
        → IntervalsRise (if tm && not has then so_far ++ j ∷ [] else so_far) × NoLater exponent (if tm && not has then so_far ++ j ∷ [] else so_far) rows
    go false has e = (rising, later)
    go true true e = (rising, later)
    go true false e = (rising_push so_far j j.0 rising (below_all j so_far here e) (omega (arith, ints)), no_later_push exponent so_far row rows later up)

fold_rises : (exponent : ℕ) (so_far : List Interval) (rows : List Row) → IntervalsRise so_far → NoLater exponent so_far rows → IsAscending is_before rows → IntervalsRise (fold (with_interval exponent) so_far rows)
fold_rises exponent so_far [] rising later up = rising
fold_rises exponent so_far (row ∷ rows) rising later up =
    let next = with_rises exponent so_far row rows rising later.0 later.1 up.0 in
    fold_rises exponent (with_interval exponent so_far row) rows next.0 next.1 up.1

no_later_none : (exponent : ℕ) (rows : List Row) → NoLater exponent [] rows
no_later_none exponent [] = tt
no_later_none exponent (row ∷ rows) = (tt, no_later_none exponent rows)

in_order_rises : (exponent : ℕ) (history : List Item) → IntervalsRise (intervals_of_rows exponent (table_of 0 (rows_in history)))
in_order_rises exponent history = fold_rises exponent [] (table_of 0 (rows_in history)) tt (no_later_none exponent (table_of 0 (rows_in history))) (table_ascending (rows_in history))

-- ---- two rising lists of the same intervals

member_above : (bound : ℤ) (i : Interval) (is : List Interval) → AllByRecursion (λ j. bound <ℤ j.0) is → list_any (is_same i) is ≡ true → bound <ℤ i.0
member_above bound i [] all has = absurd (true≢false (sym has))
member_above bound i (j ∷ is) all has = go (is_same i j) refl has (member_above bound i is all.1)
  where
    above : bound <ℤ j.0
    above = all.0

    go : (b : Bool) → is_same i j ≡ b → (b || list_any (is_same i) is) ≡ true → (list_any (is_same i) is ≡ true → bound <ℤ i.0) → bound <ℤ i.0
    go true same e deep = subst (λ (n : ℤ). bound <ℤ n) (sym ((Decides-int_eq i.0 j.0).0 same)) above
    go false other e deep = deep e

-- the first of one isn't below the first of the other
not_below : (x y : Interval) (b : List Interval) → AllByRecursion (λ j. y.0 <ℤ j.0) b → list_any (is_same x) (y ∷ b) ≡ true → y.0 ≤ℤ x.0
not_below x y b all has = go (is_same x y) refl has
  where
    go : (t : Bool) → is_same x y ≡ t → (t || list_any (is_same x) b) ≡ true → y.0 ≤ℤ x.0
    go true same e = let is : x.0 ≡ y.0 = (Decides-int_eq x.0 y.0).0 same in omega (arith, ints, is)
    go false other e = let above = member_above y.0 x b all e in omega (arith, ints, above)

itself : (i : Interval) (is : List Interval) → list_any (is_same i) (i ∷ is) ≡ true
itself i is = ap (λ (t : Bool). t || list_any (is_same i) is) ((Decides-int_eq i.0 i.0).1 refl)

-- an interval is none of those above it
absent : (i : Interval) (is : List Interval) → AllByRecursion (λ j. i.0 <ℤ j.0) is → list_any (is_same i) is ≡ false
absent i is all = false_from_ne_true (list_any (is_same i) is) (λ has. let above = member_above i.0 i is all has in omega (arith, ints, above))

same_rising : (a b : List Interval) → IntervalsRise a → IntervalsRise b → ((i : Interval) → list_any (is_same i) a ≡ list_any (is_same i) b) → a ≡ b
same_rising [] [] up up2 same = refl
same_rising [] (y ∷ b) up up2 same = absurd (true≢false (sym (itself y b) ∙ sym (same y)))
same_rising (x ∷ a) [] up up2 same = absurd (true≢false (sym (itself x a) ∙ same x))
same_rising (x ∷ a) (y ∷ b) up up2 same = ap (λ (i : Interval). i ∷ a) first ∙ ap (λ (l : List Interval). y ∷ l) (same_rising a b up.1 up2.1 (λ i. behind i (is_same i y) refl))
  where
    number : x.0 ≡ y.0
    number =
        let one = not_below x y b up2.0 (sym (same x) ∙ itself x a) in
        let two = not_below y x a up.0 (same y ∙ itself y b) in
        omega (arith, ints, one, two)

    first : x ≡ y
    first = same_interval x y ((Decides-int_eq x.0 y.0).1 number)

    behind : (i : Interval) (t : Bool) → is_same i y ≡ t → list_any (is_same i) a ≡ list_any (is_same i) b
    behind i true is =
        let here : i ≡ y = same_interval i y is in
        let in_a = absent x a up.0 in
        let in_b = absent y b up2.0 in
        subst (λ (k : Interval). list_any (is_same k) a ≡ false) (first ∙ sym here) in_a ∙ sym (subst (λ (k : Interval). list_any (is_same k) b ≡ false) (sym here) in_b)
    behind i false is =
        let other : is_same i x ≡ false = ap (is_same i) first ∙ is in
        sym (ap (λ (t : Bool). t || list_any (is_same i) a) other) ∙ same i ∙ ap (λ (t : Bool). t || list_any (is_same i) b) is

-- ---- the intervals of a range

filtered_any : (test : Interval → Bool) (i : Interval) (is : List Interval) → list_any (is_same i) (filter test is) ≡ (test i && list_any (is_same i) is)
filtered_any test i [] = none (test i)
  where
    none : (b : Bool) → false ≡ (b && false)
    none true = refl
    none false = refl
filtered_any test i (j ∷ is) = go (test j) refl (is_same i j) refl (filtered_any test i is)
  where
    or_same : (p q : Bool) → p ≡ true → true ≡ (p && (true || q))
    or_same p q e = sym (ap (λ (t : Bool). t && true) e)

    and_none : (p q r : Bool) → p ≡ false → (p && q) ≡ (p && r)
    and_none p q r e = ap (λ (t : Bool). t && q) e ∙ sym (ap (λ (t : Bool). t && r) e)

    go : (t : Bool) → test j ≡ t → (s : Bool) → is_same i j ≡ s → list_any (is_same i) (filter test is) ≡ (test i && list_any (is_same i) is)
        → list_any (is_same i) (cond t (j ∷ filter test is) (filter test is)) ≡ (test i && (is_same i j || list_any (is_same i) is))
    go true passes true same rest =
        ap (λ (b : Bool). b || list_any (is_same i) (filter test is)) same ∙ or_same (test i) (list_any (is_same i) is) (ap test (same_interval i j same) ∙ passes)
        ∙ sym (ap (λ (b : Bool). test i && (b || list_any (is_same i) is)) same)
    go false fails true same rest =
        rest ∙ and_none (test i) (list_any (is_same i) is) (is_same i j || list_any (is_same i) is) (ap test (same_interval i j same) ∙ fails)
    go true passes false other rest =
        ap (λ (b : Bool). b || list_any (is_same i) (filter test is)) other ∙ rest ∙ sym (ap (λ (b : Bool). test i && (b || list_any (is_same i) is)) other)
    go false fails false other rest = rest ∙ sym (ap (λ (b : Bool). test i && (b || list_any (is_same i) is)) other)

member_has : (P : Interval → Type 0) (i : Interval) (is : List Interval) → AllByRecursion P is → list_any (is_same i) is ≡ true → P i
member_has P i [] all has = absurd (true≢false (sym has))
member_has P i (j ∷ is) all has = go (is_same i j) refl has (member_has P i is all.1)
  where
    here : P j
    here = all.0

    go : (b : Bool) → is_same i j ≡ b → (b || list_any (is_same i) is) ≡ true → (list_any (is_same i) is ≡ true → P i) → P i
    go true same e deep = subst P (sym (same_interval i j same)) here
    go false other e deep = deep e

pub meets_true : (exponent : ℕ) (low high : ℤ) (i : Interval) → MeetsRange exponent low high i → meets_range exponent low high i ≡ true
meets_true exponent low high i meets =
    let one = meets.begins in
    let two = meets.ends in
    let begins : int_lt (interval_start exponent i) high ≡ true = grind (arith, ints, one) in
    let ends : int_lt low (interval_end exponent i) ≡ true = grind (arith, ints, two) in
    ap (λ (b : Bool). b && int_lt low (interval_end exponent i)) begins ∙ ends

true_meets : (exponent : ℕ) (low high : ℤ) (i : Interval) → meets_range exponent low high i ≡ true → MeetsRange exponent low high i
true_meets exponent low high i test =
    let p = and_parts (int_lt (interval_start exponent i) high) (int_lt low (interval_end exponent i)) test in
    let begins : interval_start exponent i <ℤ high = grind (arith, ints, p.0) in
    let ends : low <ℤ interval_end exponent i = grind (arith, ints, p.1) in
    record { begins = begins; ends = ends }

-- those that have rows and meet it: they rise,
pub asked_rises : (exponent : ℕ) (low high : ℤ) (history : List Item) → IntervalsRise (intervals_of_range exponent low high history)
asked_rises exponent low high history = rise_filtered (meets_range exponent low high) (intervals_of_rows exponent (table_of 0 (rows_in history))) (in_order_rises exponent history)

-- are these,
pub asked_any : (exponent : ℕ) (i : Interval) (low high : ℤ) (history : List Item) → list_any (is_same i) (intervals_of_range exponent low high history) ≡ (meets_range exponent low high i && is_some (last_in exponent i history))
asked_any exponent i low high history =
    filtered_any (meets_range exponent low high) i (intervals_of_rows exponent (table_of 0 (rows_in history))) ∙ ap (λ (b : Bool). meets_range exponent low high i && b) (in_order_any exponent i history)

-- cover it,
pub asked_covers : (exponent : ℕ) (low high : ℤ) (history : List Item) → CoverRange exponent (intervals_of_range exponent low high history) low high history
asked_covers exponent low high history i position stands meets =
    asked_any exponent i low high history ∙ ap (λ (b : Bool). b && is_some (last_in exponent i history)) (meets_true exponent low high i meets) ∙ there (last_in exponent i history) (last_is_greatest exponent i history)
  where
    there : (o : Option ℕ) → IsLastIn exponent i history o → is_some o ≡ true
    there None never = absurd (never (record { position = position; stands = stands }))
    there (Some l) last = refl

or_right : (a b : Bool) → b ≡ true → (a || b) ≡ true
or_right true b e = refl
or_right false b e = e

all_members : (P : Interval → Type 0) (is : List Interval) → ((i : Interval) → list_any (is_same i) is ≡ true → P i) → AllByRecursion P is
all_members P [] each = tt
all_members P (i ∷ is) each = (each i (itself i is), all_members P is (λ j has. each j (or_right (is_same j i) (list_any (is_same j) is) has)))

-- and have rows
pub asked_have : (exponent : ℕ) (low high : ℤ) (history : List Item) → AllByRecursion (λ i. IsSome (last_in exponent i history)) (intervals_of_range exponent low high history)
asked_have exponent low high history =
    all_members (λ i. IsSome (last_in exponent i history)) (intervals_of_range exponent low high history)
    (λ i has. (and_parts (meets_range exponent low high i) (is_some (last_in exponent i history)) (sym (asked_any exponent i low high history) ∙ has)).1)

-- so that a rising list of such intervals which covers it is all of them
pub range_one : (exponent : ℕ) (low high : ℤ) (history : List Item) (is : List Interval) → IntervalsRise is → AllByRecursion (IsRangeInterval exponent history low high) is → CoverRange exponent is low high history → is ≡ intervals_of_range exponent low high history
range_one exponent low high history is rising asked cover =
    same_rising is (intervals_of_range exponent low high history) rising (asked_rises exponent low high history)
    (λ i. both_ways (list_any (is_same i) is) (meets_range exponent low high i && is_some (last_in exponent i history)) (there i) (back i) ∙ sym (asked_any exponent i low high history))
  where
    there : (i : Interval) → list_any (is_same i) is ≡ true → (meets_range exponent low high i && is_some (last_in exponent i history)) ≡ true
    there i has =
        let p = member_has (IsRangeInterval exponent history low high) i is asked has in
        ap (λ (b : Bool). b && is_some (last_in exponent i history)) (meets_true exponent low high i p.0) ∙ p.1

    stands : (i : Interval) (o : Option ℕ) → IsSome o → IsLastIn exponent i history o → MeetsRange exponent low high i → list_any (is_same i) is ≡ true
    stands i None some last meets = absurd (true≢false (sym some))
    stands i (Some l) some last meets = cover i last.0.position last.0.stands meets

    back : (i : Interval) → (meets_range exponent low high i && is_some (last_in exponent i history)) ≡ true → list_any (is_same i) is ≡ true
    back i test =
        let p = and_parts (meets_range exponent low high i) (is_some (last_in exponent i history)) test in
        stands i (last_in exponent i history) p.1 (last_is_greatest exponent i history) (true_meets exponent low high i p.0)
