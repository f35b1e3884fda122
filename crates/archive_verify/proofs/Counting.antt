-- The intervals that a store tells are those that have rows, and as many of them are late.
use Rattle.std.proofs.Common.{◌≡◌, ◌∙◌, ◌⊎◌, inl, inr, ℕ, zero, suc, ◌+◌, ◌<ℤ◌, List, [], ◌∷◌, ◌++◌, length, take, Bool, true, false, true≢false, cond, Option, Some, None, refl, sym, ap, subst, arith, add-one}
use Rattle.std.specs.Prelude.{◌↔◌, slice_get, ◌==◌, ◌&&◌, ◌||◌, not, filter, fold, IsSome, if◌then◌else◌}
use Rattle.std.specs.List.{list_any, AllByRecursion}
use Rattle.std.specs.Option.{option_map_or}
use Rattle.std.specs.Ordering.{int_eq}
use Rattle.std.proofs.lemmas.Bool.{and_parts, eqb-true, false_from_ne_true}
use Rattle.std.proofs.lemmas.Bool.Decides.{Decides-int_eq}
use Rattle.std.proofs.lemmas.Int.{ints}
use Rattle.intervals.specs.declared.interval.Interval.{Interval}
use Rattle.history_items.specs.declared.fills.Fill.{Fill}
use Rattle.history_items.specs.Fills.{base_in, is_same}
use Rattle.history_items.specs.declared.items.Item.{Item}
use Rattle.history_items.specs.declared.items.Item.TheVariants as items
use Rattle.history_items.specs.Items.{rows_in}
use Rattle.history_items.specs.Late.{IsLastIn, IsLate, StandsIn, is_late_in, last_in}
use Rattle.history_items.proofs.Late.{last_is_greatest, late_by_last}
use Rattle.late_marks.specs.Mark.{is_late_by}
use Rattle.interval_fills.proofs.Steps.{same_interval}
use Rattle.interval_walks.specs.Counts.{AreApart, intervals_in, row_interval, late_intervals, with_interval}
use Rattle.interval_walks.specs.Turns.{IntervalsRise}
use Rattle.interval_walks.proofs.Counts.{as_many, intervals_apart, interval_there}
use Rattle.store_fills.specs.Sound.{base_of_filling}
use Rattle.archive_store.specs.Entries.{FilledArchive}
use Rattle.archive_store.specs.LateFills.{is_late_in_archive, late_in_archive}

-- ---- rising intervals are apart

none_same : (i : Interval) (is : List Interval) → AllByRecursion (λ other. i.0 <ℤ other.0) is → list_any (is_same i) is ≡ false
none_same i [] all = refl
none_same i (j ∷ is) all =
    let other : int_eq i.0 j.0 ≡ false = false_from_ne_true _ (λ same. let one : i.0 ≡ j.0 = (Decides-int_eq i.0 j.0).0 same in let less = all.0 in omega (arith, ints, less, one)) in
    ap (λ (b : Bool). b || list_any (is_same i) is) other ∙ none_same i is all.1

pub rising_apart : (is : List Interval) → IntervalsRise is → AreApart is
rising_apart [] up = tt
rising_apart (i ∷ is) up = (none_same i is up.0, rising_apart is up.1)

-- ---- an interval that is counted has a row

pushed : (test : Interval → Bool) (is : List Interval) (x : Interval) → list_any test (is ++ x ∷ []) ≡ true → (list_any test is ≡ true) ⊎ (test x ≡ true)
pushed test [] x h = inr (last (test x) h)
  where
    last : (b : Bool) → (b || false) ≡ true → b ≡ true
    last true h = refl
    last false h = h
pushed test (i ∷ is) x h = go (test i) (pushed test is x) h
  where
    go : (b : Bool) → (list_any test (is ++ x ∷ []) ≡ true → (list_any test is ≡ true) ⊎ (test x ≡ true))
        → (b || list_any test (is ++ x ∷ [])) ≡ true → ((b || list_any test is) ≡ true) ⊎ (test x ≡ true)
    go true later h = inl refl
    go false later h = later h

module _ (ex : ℕ) (i : Interval) where
  -- whether it was there before, or a row of it stands in the history
  abbrev IsThere : List Interval → List Item → Type 0
  IsThere is history = (list_any (is_same i) is ≡ true) ⊎ ((p : ℕ) × StandsIn ex i p history)

  further : (item : Item) (history : List Item) (is : List Interval) → IsThere is history → IsThere is (item ∷ history)
  further item history is (inl before) = inl before
  further item history is (inr s) = inr (suc s.0, record { row = s.1.row; there = s.1.there; table = s.1.table; time = s.1.time })

  stands_from : (history : List Item) (is : List Interval) → list_any (is_same i) (fold (with_interval ex) is (rows_in history)) ≡ true → IsThere is history
  stands_from [] is h = inl h
  stands_from (items.Mdb database ∷ history) is h = further (items.Mdb database) history is (stands_from history is h)
  stands_from (items.Row row ∷ history) is h = later (stands_from history (with_interval ex is row) h)
    where
      here : (row.table == 0) ≡ true → is_same i (row_interval ex row) ≡ true → StandsIn ex i 0 (items.Row row ∷ history)
      here table same = record { row = row; there = refl; table = eqb-true row.table 0 table; time = sym ((Decides-int_eq i.0 (row_interval ex row).0).0 same) }

      parted : (row.table == 0) ≡ true → (list_any (is_same i) is ≡ true) ⊎ (is_same i (row_interval ex row) ≡ true) → IsThere is (items.Row row ∷ history)
      parted table (inl before) = inl before
      parted table (inr same) = inr (0, here table same)

      added : (b : Bool) → ((row.table == 0) && not (list_any (is_same (row_interval ex row)) is)) ≡ b → list_any (is_same i) (if b then is ++ row_interval ex row ∷ [] else is) ≡ true → IsThere is (items.Row row ∷ history)
      added true e h = parted (and_parts (row.table == 0) (not (list_any (is_same (row_interval ex row)) is)) e).0 (pushed (is_same i) is (row_interval ex row) h)
      added false e h = inl h

      later : IsThere (with_interval ex is row) history → IsThere is (items.Row row ∷ history)
      later (inl h) = added ((row.table == 0) && not (list_any (is_same (row_interval ex row)) is)) refl h
      later (inr s) = further (items.Row row) history is (inr s)

counted_stands : (ex : ℕ) (i : Interval) (history : List Item) → list_any (is_same i) (intervals_in ex history) ≡ true → (p : ℕ) × StandsIn ex i p history
counted_stands ex i history h = go (stands_from ex i history [] h)
  where
    go : (list_any (is_same i) [] ≡ true) ⊎ ((p : ℕ) × StandsIn ex i p history) → (p : ℕ) × StandsIn ex i p history
    go (inl none) = absurd (true≢false (sym none))
    go (inr stands) = stands

-- ---- the intervals of a store

pub last_stands : (ex : ℕ) (i : Interval) (history : List Item) → IsSome (last_in ex i history) → (p : ℕ) × StandsIn ex i p history
last_stands ex i history some = go (last_in ex i history) (last_is_greatest ex i history) some
  where
    go : (o : Option ℕ) → IsLastIn ex i history o → IsSome o → (p : ℕ) × StandsIn ex i p history
    go None never some = absurd cc
    go (Some last) row some = (row.0.position, row.0.stands)

among_has : (ex : ℕ) (i : Interval) (history : List Item) (is : List Interval) → AllByRecursion (λ j. IsSome (last_in ex j history)) is → list_any (is_same i) is ≡ true → IsSome (last_in ex i history)
among_has ex i history [] all h = absurd (true≢false (sym h))
among_has ex i history (j ∷ is) all h = go (is_same i j) refl (among_has ex i history is all.1) h
  where
    go : (b : Bool) → is_same i j ≡ b → (list_any (is_same i) is ≡ true → IsSome (last_in ex i history)) → (b || list_any (is_same i) is) ≡ true → IsSome (last_in ex i history)
    go true same later h = subst (λ (k : Interval). IsSome (last_in ex k history)) (sym (same_interval i j same)) all.0
    go false same later h = later h

both_true : (a b : Bool) → (a ≡ true → b ≡ true) → (b ≡ true → a ≡ true) → a ≡ b
both_true true b to from = sym (to refl)
both_true false true to from = from refl
both_true false false to from = refl

module _ (ex : ℕ) (history : List Item) (is : List Interval) (rise : IntervalsRise is) (rows : AllByRecursion (λ i. IsSome (last_in ex i history)) is)
    (cover : (i : Interval) (p : ℕ) → StandsIn ex i p history → list_any (is_same i) is ≡ true) where
  same_members : (i : Interval) → list_any (is_same i) is ≡ list_any (is_same i) (intervals_in ex history)
  same_members i = both_true (list_any (is_same i) is) (list_any (is_same i) (intervals_in ex history))
      (λ there. let stands = last_stands ex i history (among_has ex i history is rows there) in interval_there ex i stands.0 history stands.1)
      (λ counted. let stands = counted_stands ex i history counted in cover i stands.0 stands.1)

  pub as_many_intervals : length is ≡ length (intervals_in ex history)
  as_many_intervals = as_many is (intervals_in ex history) (rising_apart is rise) (intervals_apart ex history) same_members

  -- ---- those that pass a test

  module _ (test : Interval → Bool) where
    none_after : (b : Bool) → false ≡ (b && false)
    none_after true = refl
    none_after false = refl

    any_passed : (i : Interval) (l : List Interval) → list_any (is_same i) (filter test l) ≡ (test i && list_any (is_same i) l)
    any_passed i [] = none_after (test i)
    any_passed i (x ∷ l) = go (test x) (is_same i x) refl refl (any_passed i l)
      where
        go : (b s : Bool) → test x ≡ b → is_same i x ≡ s → list_any (is_same i) (filter test l) ≡ (test i && list_any (is_same i) l)
            → list_any (is_same i) (cond b (x ∷ filter test l) (filter test l)) ≡ (test i && (is_same i x || list_any (is_same i) l))
        go true true eb es rest =
            let passes : test i ≡ true = ap test (same_interval i x es) ∙ eb in
            ap (λ (s : Bool). s || list_any (is_same i) (filter test l)) es ∙ sym (ap (λ (s : Bool). test i && (s || list_any (is_same i) l)) es ∙ ap (λ (b : Bool). b && true) passes)
        go true false eb es rest = ap (λ (s : Bool). s || list_any (is_same i) (filter test l)) es ∙ rest ∙ sym (ap (λ (s : Bool). test i && (s || list_any (is_same i) l)) es)
        go false true eb es rest =
            let fails : test i ≡ false = ap test (same_interval i x es) ∙ eb in
            rest ∙ ap (λ (b : Bool). b && list_any (is_same i) l) fails ∙ sym (ap (λ (b : Bool). b && (is_same i x || list_any (is_same i) l)) fails)
        go false false eb es rest = rest ∙ sym (ap (λ (s : Bool). test i && (s || list_any (is_same i) l)) es)

    apart_passed : (l : List Interval) → AreApart l → AreApart (filter test l)
    apart_passed [] apart = tt
    apart_passed (x ∷ l) apart = go (test x) (apart_passed l apart.1)
      where
        alone : list_any (is_same x) (filter test l) ≡ false
        alone = any_passed x l ∙ ap (λ (b : Bool). test x && b) apart.0 ∙ sym (none_after (test x))

        go : (b : Bool) → AreApart (filter test l) → AreApart (cond b (x ∷ filter test l) (filter test l))
        go true rest = (alone, rest)
        go false rest = rest

    pub as_many_passed : length (filter test is) ≡ length (filter test (intervals_in ex history))
    as_many_passed = as_many (filter test is) (filter test (intervals_in ex history)) (apart_passed is (rising_apart is rise)) (apart_passed (intervals_in ex history) (intervals_apart ex history))
        (λ i. any_passed i is ∙ ap (λ (b : Bool). test i && b) (same_members i) ∙ sym (any_passed i (intervals_in ex history)))

-- ---- late by the fills of an archive

same_filter : (p q : Interval → Bool) (l : List Interval) → ((i : Interval) → p i ≡ q i) → filter p l ≡ filter q l
same_filter p q [] same = refl
same_filter p q (i ∷ l) same = ap (λ (b : Bool). cond b (i ∷ filter p l) (filter p l)) (same i) ∙ ap (λ (rest : List Interval). cond (q i) (i ∷ rest) rest) (same_filter p q l same)

pub late_by_bases : (filled : FilledArchive) (fills : List Fill) → ((i : Interval) → base_in i fills ≡ base_of_filling filled.fillings i) → late_intervals filled.plain.exponent filled.plain.history fills ≡ late_in_archive filled
late_by_bases filled fills bases =
    same_filter (λ i. is_late_in filled.plain.exponent i filled.plain.history fills) (is_late_in_archive filled) (intervals_in filled.plain.exponent filled.plain.history)
    (λ i. ap (λ (base : Option ℕ). option_map_or (λ last. is_late_by last base) (last_in filled.plain.exponent i filled.plain.history) false) (bases i))

-- ---- intervals one after the other

some_is : (x y : Interval) → ◌≡◌ {A = Option Interval} (Some x) (Some y) → x ≡ y
some_is x y e = cc

passed_next : (test : Interval → Bool) (n : ℕ) (is : List Interval) (x : Interval) → slice_get is n ≡ Some x → length (filter test (take (suc n) is)) ≡ length (filter test (take n is)) + (if test x then 1 else 0)
passed_next test n [] x at = absurd cc
passed_next test zero (y ∷ is) x at = ap (λ (z : Interval). length (cond (test z) (z ∷ []) [])) (some_is y x at) ∙ one (test x)
  where
    one : (b : Bool) → length (cond b (x ∷ []) []) ≡ 0 + (if b then 1 else 0)
    one true = refl
    one false = refl
passed_next test (suc n) (y ∷ is) x at = go (test y) (passed_next test n is x at)
  where
    go : (b : Bool) → length (filter test (take (suc n) is)) ≡ length (filter test (take n is)) + (if test x then 1 else 0)
        → length (cond b (y ∷ filter test (take (suc n) is)) (filter test (take (suc n) is))) ≡ length (cond b (y ∷ filter test (take n is)) (filter test (take n is))) + (if test x then 1 else 0)
    go true rest = omega (arith, rest)
    go false rest = rest

-- of one interval more that passes a test there is one more
pub passed_more : (test : Interval → Bool) (n : ℕ) (is : List Interval) (x : Interval) → slice_get is n ≡ Some x → length (filter test (take (n + 1) is)) ≡ length (filter test (take n is)) + (if test x then 1 else 0)
passed_more test n is x at = ap (λ (k : ℕ). length (filter test (take k is))) (add-one n) ∙ passed_next test n is x at

-- what tells that an interval is late is the test by its last row
pub late_told : (ex : ℕ) (told : Bool) (i : Interval) (history : List Item) (fills : List Fill) → (told ≡ true) ↔ IsLate ex i history fills → is_late_in ex i history fills ≡ told
late_told ex told i history fills says =
    let last = late_by_last ex i history fills in
    both_true (is_late_in ex i history fills) told (λ late. says.1 (last.0 late)) (λ is. last.1 (says.0 is))
