-- The rows of intervals, one interval after the other.
use Rattle.std.proofs.Common.{◌≡◌, ℕ, suc, ℤ, ◌<ℤ◌, ◌≤◌, ◌^◌, List, [], ◌∷◌, ◌++◌, length, Bool, true, false, true≢false, cond, Some, refl, sym, ap, subst, ◌∙◌, arith}
use Rattle.std.specs.Prelude.{fold, filter, slice_get, ◌||◌}
use Rattle.std.specs.List.{list_any, flat_map, AllByRecursion}
use Rattle.std.specs.Ordering.{int_eq}
use Rattle.std.proofs.lemmas.Bool.{eqb-true}
use Rattle.std.proofs.lemmas.Bool.Decides.{Decides-int_eq}
use Rattle.std.proofs.lemmas.Nat.{pow_pos}
use Rattle.intervals.specs.declared.interval.Interval.{Interval}
use Rattle.arch_types.specs.declared.row.Row.{Row}
use Rattle.intervals.specs.Interval.{interval_of}
use Rattle.arch_types.specs.Order.{is_before, place_by}
use Rattle.arch_types.specs.History.{is_in_table}
use Rattle.arch_types.specs.Table.{range_of, is_in_time_range, table_of}
use Rattle.arch_types.proofs.Ordered.{IsAscending}
use Rattle.history_items.specs.declared.items.Item.{Item}
use Rattle.history_items.specs.declared.items.Item.TheVariants as items
use Rattle.history_items.specs.Items.{row_item, rows_in}
use Rattle.history_items.specs.Fills.{is_same}
use Rattle.interval_fills.proofs.Intervals.{range_is_interval}
use Rattle.interval_fills.proofs.Steps.{same_interval}
use Rattle.interval_fills.proofs.Times.{around}
use Rattle.interval_walks.specs.Counts.{row_interval}
use Rattle.interval_walks.specs.Turns.{IntervalsRise, MeetsRange, CoverRange, rows_in_turn}
use Rattle.interval_walks.proofs.Rising.{after_low, before_high, interval_rises, later_not, less_later, not_before, range_is, table_ascending}

-- ---- rows that pass one test, and then those that pass another

-- the rows that pass the second test come after those that pass the first, and none passes both
abbrev ComeAfter : (Row → Bool) → (Row → Bool) → List Row → Type 0
ComeAfter p q [] = Unit {0}
ComeAfter p q (x ∷ xs) = (q x ≡ true → (p x ≡ false) × AllByRecursion (λ y. p y ≡ false) xs) × ComeAfter p q xs

none_pass : (p : Row → Bool) (xs : List Row) → AllByRecursion (λ y. p y ≡ false) xs → filter p xs ≡ []
none_pass p [] all = refl
none_pass p (x ∷ xs) all = rw (all.0) (none_pass p xs all.1)

together : (p q : Row → Bool) (xs : List Row) → ComeAfter p q xs → filter p xs ++ filter q xs ≡ filter (λ x. p x || q x) xs
together p q [] after = refl
together p q (x ∷ xs) after = go (p x) refl (q x) refl (together p q xs after.1)
  where
    go : (a : Bool) → p x ≡ a → (b : Bool) → q x ≡ b → filter p xs ++ filter q xs ≡ filter (λ x. p x || q x) xs
        → cond a (x ∷ filter p xs) (filter p xs) ++ cond b (x ∷ filter q xs) (filter q xs) ≡ cond (a || b) (x ∷ filter (λ x. p x || q x) xs) (filter (λ x. p x || q x) xs)
    go true is true is2 rest = absurd (true≢false (sym is ∙ (after.0 is2).0))
    go true is false is2 rest = ap (λ (l : List Row). x ∷ l) rest
    go false is true is2 rest =
        let none : filter p xs ≡ [] = none_pass p xs (after.0 is2).1 in
        ap (λ (l : List Row). l ++ x ∷ filter q xs) none ∙ ap (λ (l : List Row). x ∷ l) (sym (ap (λ (l : List Row). l ++ filter q xs) none) ∙ rest)
    go false is false is2 rest = rest

-- ---- intervals one after the other

module _ (ex : ℕ) where
  abbrev in_interval : Interval → Row → Bool
  in_interval i row = int_eq (interval_of ex row.key.time) i.0

  abbrev in_any : List Interval → Row → Bool
  in_any [] row = false
  in_any (i ∷ is) row = in_interval i row || in_any is row

  -- a row in one of later intervals is in a later interval
  later_interval : (i : Interval) (is : List Interval) (row : Row) → AllByRecursion (λ j. i.0 <ℤ j.0) is → in_any is row ≡ true → i.0 <ℤ interval_of ex row.key.time
  later_interval i [] row later e = absurd cc
  later_interval i (j ∷ is) row later e = go (in_interval j row) refl e (later_interval i is row later.1)
    where
      go : (b : Bool) → in_interval j row ≡ b → (b || in_any is row) ≡ true → (in_any is row ≡ true → i.0 <ℤ interval_of ex row.key.time) → i.0 <ℤ interval_of ex row.key.time
      go true same e deep = subst (λ (z : ℤ). i.0 <ℤ z) (sym ((Decides-int_eq (interval_of ex row.key.time) j.0).0 same)) later.0
      go false same e deep = deep e

  none_in : (i : Interval) (x : Row) (ys : List Row) → i.0 <ℤ interval_of ex x.key.time → AllByRecursion (λ y. is_before y x ≡ false) ys → AllByRecursion (λ y. in_interval i y ≡ false) ys
  none_in i x [] late all = tt
  none_in i x (y ∷ ys) late all =
      (later_not i.0 (interval_of ex y.key.time) (less_later i.0 (interval_of ex x.key.time) (interval_of ex y.key.time) late (interval_rises ex x.key.time y.key.time (not_before y x all.0))), none_in i x ys late all.1)

  come_after : (i : Interval) (is : List Interval) (rows : List Row) → AllByRecursion (λ j. i.0 <ℤ j.0) is → IsAscending is_before rows → ComeAfter (in_interval i) (in_any is) rows
  come_after i is [] later up = tt
  come_after i is (x ∷ xs) later up =
      ((λ e. let late = later_interval i is x later e in (later_not i.0 (interval_of ex x.key.time) late, none_in i x xs late up.0)), come_after i is xs later up.1)

  none_at_all : (rows : List Row) → filter (in_any []) rows ≡ []
  none_at_all [] = refl
  none_at_all (x ∷ rows) = none_at_all rows

  in_turn : (is : List Interval) (rows : List Row) → IntervalsRise is → IsAscending is_before rows → flat_map (λ i. filter (in_interval i) rows) is ≡ filter (in_any is) rows
  in_turn [] rows rising up = sym (none_at_all rows)
  in_turn (i ∷ is) rows rising up =
      ap (λ (l : List Row). filter (in_interval i) rows ++ l) (in_turn is rows rising.1 up)
      ∙ together (in_interval i) (in_any is) rows (come_after i is rows rising.0 up)

  each_filter : (is : List Interval) (history : List Item) → rows_in_turn ex is history ≡ flat_map (λ i. filter (in_interval i) (table_of 0 (rows_in history))) is
  each_filter [] history = refl
  each_filter (i ∷ is) history =
      ap (λ (l : List Row). l ++ rows_in_turn ex is history) (range_is_interval ex i history)
      ∙ ap (λ (l : List Row). filter (in_interval i) (table_of 0 (rows_in history)) ++ l) (each_filter is history)

  turn_is : (is : List Interval) (history : List Item) → IntervalsRise is → rows_in_turn ex is history ≡ filter (in_any is) (table_of 0 (rows_in history))
  turn_is is history rising = each_filter is history ∙ in_turn is (table_of 0 (rows_in history)) rising (table_ascending (rows_in history))

-- ---- a range

kept_both : (r p : Row → Bool) (xs : List Row) → AllByRecursion (λ x. r x ≡ true → p x ≡ true) xs → filter r (filter p xs) ≡ filter r xs
kept_both r p [] all = refl
kept_both r p (x ∷ xs) all = go (p x) refl (r x) refl (kept_both r p xs all.1)
  where
    go : (a : Bool) → p x ≡ a → (b : Bool) → r x ≡ b → filter r (filter p xs) ≡ filter r xs → filter r (cond a (x ∷ filter p xs) (filter p xs)) ≡ cond b (x ∷ filter r xs) (filter r xs)
    go true is true is2 rest = rw is2 (ap (λ (l : List Row). x ∷ l) rest)
    go true is false is2 rest = rw is2 rest
    go false is true is2 rest = absurd (true≢false (sym (all.0 is2) ∙ is))
    go false is false is2 rest = rest

any_one : (ex : ℕ) (i : Interval) (is : List Interval) (row : Row) → in_interval ex i row ≡ true → list_any (is_same i) is ≡ true → in_any ex is row ≡ true
any_one ex i [] row inside there = absurd cc
any_one ex i (j ∷ is) row inside there = go (is_same i j) refl there (any_one ex i is row inside)
  where
    or_here : (a b : Bool) → a ≡ true → (a || b) ≡ true
    or_here true b e = refl
    or_here false b e = absurd cc

    or_there : (a b : Bool) → b ≡ true → (a || b) ≡ true
    or_there true b e = refl
    or_there false b e = e

    go : (b : Bool) → is_same i j ≡ b → (b || list_any (is_same i) is) ≡ true → (list_any (is_same i) is ≡ true → in_any ex is row ≡ true) → (in_interval ex j row || in_any ex is row) ≡ true
    go true same there deep = or_here (in_interval ex j row) (in_any ex is row) (subst (λ (k : Interval). in_interval ex k row ≡ true) (same_interval i j same) inside)
    go false same there deep = or_there (in_interval ex j row) (in_any ex is row) (deep there)

-- a row of the history stands somewhere
abbrev IsStanding : List Item → Row → Type 0
IsStanding history row = (p : ℕ) × (slice_get history p ≡ Some (row_item row))

standing_behind : (x : Item) (xs : List Item) (rows : List Row) → AllByRecursion (IsStanding xs) rows → AllByRecursion (IsStanding (x ∷ xs)) rows
standing_behind x xs [] all = tt
standing_behind x xs (row ∷ rows) all = ((suc all.0.0, all.0.1), standing_behind x xs rows all.1)

standing_all : (xs : List Item) → AllByRecursion (IsStanding xs) (rows_in xs)
standing_all [] = tt
standing_all (items.Mdb database ∷ xs) = standing_behind (items.Mdb database) xs (rows_in xs) (standing_all xs)
standing_all (items.Row row ∷ xs) = ((0, refl), standing_behind (items.Row row) xs (rows_in xs) (standing_all xs))

module _ (P : Row → Type 0) where
  kept_all : (t : Row → Bool) (xs : List Row) → AllByRecursion P xs → AllByRecursion (λ x. P x × (t x ≡ true)) (filter t xs)
  kept_all t [] all = tt
  kept_all t (x ∷ xs) all = go (t x) refl (kept_all t xs all.1)
    where
      go : (b : Bool) → t x ≡ b → AllByRecursion (λ x. P x × (t x ≡ true)) (filter t xs) → AllByRecursion (λ x. P x × (t x ≡ true)) (cond b (x ∷ filter t xs) (filter t xs))
      go true is rest = ((all.0, is), rest)
      go false is rest = rest

module _ (P : Row → Type 0) where
  place_all : (ys : List Row) (x : Row) → P x → AllByRecursion P ys → AllByRecursion P (place_by is_before ys x)
  place_all [] x p all = (p, tt)
  place_all (y ∷ ys) x p all = go (is_before x y) (place_all ys x p all.1)
    where
      go : (b : Bool) → AllByRecursion P (place_by is_before ys x) → AllByRecursion P (cond b (x ∷ y ∷ ys) (y ∷ place_by is_before ys x))
      go true rest = (p, all)
      go false rest = (all.0, rest)

  order_all : (acc xs : List Row) → AllByRecursion P acc → AllByRecursion P xs → AllByRecursion P (fold (place_by is_before) acc xs)
  order_all acc [] have all = have
  order_all acc (x ∷ xs) have all = order_all (place_by is_before acc x) xs (place_all acc x all.0 have) all.1

module _ (P Q : Row → Type 0) (step : (x : Row) → P x → Q x) where
  all_on : (xs : List Row) → AllByRecursion P xs → AllByRecursion Q xs
  all_on [] all = tt
  all_on (x ∷ xs) all = (step x all.0, all_on xs all.1)

module _ (ex : ℕ) where
  covered : (is : List Interval) (low high : ℤ) (history : List Item) → CoverRange ex is low high history → (row : Row) → IsStanding history row × (is_in_table 0 row ≡ true) → is_in_time_range low high row ≡ true → in_any ex is row ≡ true
  covered is low high history covers row there inside =
      let i : Interval = record { 0 = interval_of ex row.key.time } in
      let near = around (2 ^ ex) (pow_pos ex) row.key.time in
      let within = range_is low high row inside in
      let meets : MeetsRange ex low high i = record { begins = before_high near.0 within.1; ends = after_low within.0 near.1 } in
      any_one ex i is row ((Decides-int_eq (interval_of ex row.key.time) i.0).1 refl)
      (covers i there.0.0 (record { row = row; there = there.0.1; table = sym (eqb-true 0 row.table there.1); time = refl }) meets)

  pub ranges : (is : List Interval) (low high : ℤ) (history : List Item) → IntervalsRise is → CoverRange ex is low high history → filter (is_in_time_range low high) (rows_in_turn ex is history) ≡ range_of 0 low high (rows_in history)
  ranges is low high history rising covers =
      ap (filter (is_in_time_range low high)) (turn_is ex is history rising)
      ∙ kept_both (is_in_time_range low high) (in_any ex is) (table_of 0 (rows_in history))
      (all_on (λ x. IsStanding history x × (is_in_table 0 x ≡ true)) (λ x. is_in_time_range low high x ≡ true → in_any ex is x ≡ true) (λ x there. covered is low high history covers x there)
      (table_of 0 (rows_in history))
      (order_all (λ x. IsStanding history x × (is_in_table 0 x ≡ true)) [] (filter (is_in_table 0) (rows_in history)) tt (kept_all (IsStanding history) (is_in_table 0) (rows_in history) (standing_all history))))

-- ---- how many rows

module _ (ex : ℕ) (test : Interval → Bool) where
  in_tested : (is : List Interval) (row : Row) → AllByRecursion (λ i. test i ≡ true) is → in_any ex is row ≡ true → test (row_interval ex row) ≡ true
  in_tested [] row all e = absurd cc
  in_tested (i ∷ is) row all e = go (in_interval ex i row) refl e (in_tested is row all.1)
    where
      go : (b : Bool) → in_interval ex i row ≡ b → (b || in_any ex is row) ≡ true → (in_any ex is row ≡ true → test (row_interval ex row) ≡ true) → test (row_interval ex row) ≡ true
      go true same e deep = subst (λ (k : Interval). test k ≡ true) (sym (same_interval (row_interval ex row) i same)) all.0
      go false same e deep = deep e

fewer : (p q : Row → Bool) (xs : List Row) → ((x : Row) → p x ≡ true → q x ≡ true) → length (filter p xs) ≤ length (filter q xs)
fewer p q [] on = omega arith
fewer p q (x ∷ xs) on = go (p x) refl (q x) refl (fewer p q xs on)
  where
    go : (a : Bool) → p x ≡ a → (b : Bool) → q x ≡ b → length (filter p xs) ≤ length (filter q xs) → length (cond a (x ∷ filter p xs) (filter p xs)) ≤ length (cond b (x ∷ filter q xs) (filter q xs))
    go true is true is2 rest = omega (arith, rest)
    go true is false is2 rest = absurd (true≢false (sym (on x is) ∙ is2))
    go false is true is2 rest = omega (arith, rest)
    go false is false is2 rest = rest

pub few_in_turn : (ex : ℕ) (test : Interval → Bool) (is : List Interval) (history : List Item) → IntervalsRise is → AllByRecursion (λ i. test i ≡ true) is
    → length (rows_in_turn ex is history) ≤ length (filter (λ row. test (row_interval ex row)) (table_of 0 (rows_in history)))
few_in_turn ex test is history rising all =
    let whole = ap length (turn_is ex is history rising) in
    omega (arith, whole, fewer (in_any ex is) (λ row. test (row_interval ex row)) (table_of 0 (rows_in history)) (λ row e. in_tested ex test is row all e))
