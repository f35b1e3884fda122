-- The rows of an interval.
use Rattle.std.proofs.Common.{◌≡◌, inl, inr, ℕ, zero, suc, ℤ, pos, ◌<◌, ◌≤ℤ◌, ◌<ℤ◌, ◌^◌, List, [], ◌∷◌, ◌++◌, take, drop, Bool, true, false, cond, refl, sym, ◌∙◌, ap, subst, arith, append-nil}
use Rattle.std.specs.Prelude.{filter, fold, not, ◌+ℤ◌, ◌*ℤ◌, int_lt}
use Rattle.std.specs.List.{AllByRecursion}
use Rattle.std.specs.Ordering.{int_eq}
use Rattle.std.proofs.lemmas.Int.{ints}
use Rattle.std.proofs.lemmas.Bool.{eqb-true, and_parts, false_from_ne_true}
use Rattle.std.proofs.lemmas.Bool.Decides.{Decides-int_eq}
use Rattle.std.proofs.lemmas.Nat.{pow_pos}
use Rattle.std.proofs.lemmas.List.{take-append-drop}
use Rattle.std.proofs.lemmas.List.Elements.{filter-append, filter_agree}
use Rattle.std.proofs.lemmas.List.Sums.{fold-append}
use Rattle.intervals.specs.declared.interval.Interval.{Interval}
use Rattle.arch_types.specs.declared.row.Row.{Row}
use Rattle.intervals.specs.Interval.{interval_of, interval_start, interval_end}
use Rattle.arch_types.specs.Order.{is_before, order_by}
use Rattle.arch_types.specs.History.{is_in_table}
use Rattle.arch_types.specs.Table.{range_of, is_in_time_range, table_of}
use Rattle.arch_types.proofs.Ordered.{filter-order}
use Rattle.arch_types.proofs.Ranks.{rows_rank}
use Rattle.mdb_items.specs.Database.{Database}
use Rattle.history_items.specs.declared.items.Item.{Item}
use Rattle.history_items.specs.declared.items.Item.TheVariants as items
use Rattle.history_items.specs.Items.{prefix, rows_in}
use Rattle.history_items.specs.Databases.{database_after, database_in}
use Rattle.history_items.specs.Late.{StandsDatabase, StandsIn}
use Rattle.history_items.proofs.ItemLists.{rows_in-append}
use Rattle.interval_fills.specs.Intervals.{rows_of_interval, NoneSince}
use Rattle.interval_fills.proofs.Times.{in_interval, around}

-- ---- times in an interval

not_true : (b : Bool) → not b ≡ true → b ≡ false
not_true true e = absurd cc
not_true false e = refl

not_below : (t s : ℤ) → s ≤ℤ t → int_lt t s ≡ false
not_below t s le = grind (arith, ints)

is_below : (t s : ℤ) → t <ℤ s → int_lt t s ≡ true
is_below t s lt = grind (arith, ints)

at_or_above : (t s : ℤ) → int_lt t s ≡ false → s ≤ℤ t
at_or_above t s e = grind (arith, ints)

below : (t s : ℤ) → int_lt t s ≡ true → t <ℤ s
below t s e = grind (arith, ints)

-- a row of the range of an interval's times is in the interval
pub range_in : (e : ℕ) (i : Interval) (row : Row) → is_in_time_range (interval_start e i) (interval_end e i) row ≡ true → interval_of e row.key.time ≡ i.0
range_in e i row passes =
    let p = and_parts (not (int_lt row.key.time (interval_start e i))) (int_lt row.key.time (interval_end e i)) passes in
    in_interval (2 ^ e) row.key.time i.0
    (at_or_above row.key.time (interval_start e i) (not_true (int_lt row.key.time (interval_start e i)) p.0))
    (below row.key.time (interval_end e i) p.1)

-- and back
pub in_range : (e : ℕ) (i : Interval) (row : Row) → interval_of e row.key.time ≡ i.0 → is_in_time_range (interval_start e i) (interval_end e i) row ≡ true
in_range e i row is =
    let n = 2 ^ e in
    let t = row.key.time in
    let both = subst (λ (z : ℤ). ((z *ℤ pos n) ≤ℤ t) × (t <ℤ ((z +ℤ pos 1) *ℤ pos n))) is (around n (pow_pos e) t) in
    let low : int_lt t (interval_start e i) ≡ false = not_below t (interval_start e i) both.0 in
    let high : int_lt t (interval_end e i) ≡ true = is_below t (interval_end e i) both.1 in
    rw (low, high) refl

alike : (a b : Bool) → (a ≡ true → b ≡ true) → (b ≡ true → a ≡ true) → a ≡ b
alike true b there back = sym (there refl)
alike false true there back = back refl
alike false false there back = refl

-- the test by the range is the test by the interval
pub tests_alike : (e : ℕ) (i : Interval) (row : Row) → is_in_time_range (interval_start e i) (interval_end e i) row ≡ int_eq (interval_of e row.key.time) i.0
tests_alike e i row =
    alike (is_in_time_range (interval_start e i) (interval_end e i) row) (int_eq (interval_of e row.key.time) i.0)
    (λ passes. (Decides-int_eq (interval_of e row.key.time) i.0).1 (range_in e i row passes))
    (λ same. in_range e i row ((Decides-int_eq (interval_of e row.key.time) i.0).0 same))

pub range_is_interval : (e : ℕ) (i : Interval) (history : List Item) → rows_of_interval e i history ≡ filter (λ row. int_eq (interval_of e row.key.time) i.0) (table_of 0 (rows_in history))
range_is_interval e i history = filter_agree (is_in_time_range (interval_start e i) (interval_end e i)) (λ row. int_eq (interval_of e row.key.time) i.0) (tests_alike e i) (table_of 0 (rows_in history))

-- ---- nothing at or after a front

ahead : (e : ℕ) (i : Interval) (x : Item) (xs : List Item) (p : ℕ) → StandsIn e i p xs → StandsIn e i (suc p) (x ∷ xs)
ahead e i x xs p s = record { row = s.row; there = s.there; table = s.table; time = s.time }

-- a row isn't of the interval
abbrev IsElsewhere : ℕ → Interval → Row → Type 0
IsElsewhere e i row = is_in_table 0 row ≡ true → is_in_time_range (interval_start e i) (interval_end e i) row ≡ false

none_here : (e : ℕ) (i : Interval) (x : Row) (xs : List Item) → (StandsIn e i 0 (items.Row x ∷ xs) → ⊥) → IsElsewhere e i x
none_here e i x xs none t =
    false_from_ne_true _ (λ r. none (record { row = x; there = refl; table = sym (eqb-true 0 x.table t); time = range_in e i x r }))

-- the rows that pass both tests are none
nothing_passes : (q t : Row → Bool) (xs : List Row) → AllByRecursion (λ z. t z ≡ true → q z ≡ false) xs → filter q (filter t xs) ≡ []
nothing_passes q t [] all = refl
nothing_passes q t (x ∷ xs) all = go (t x) refl (nothing_passes q t xs all.1)
  where
    go : (b : Bool) → t x ≡ b → filter q (filter t xs) ≡ [] → filter q (cond b (x ∷ filter t xs) (filter t xs)) ≡ []
    go true is rest = let none : q x ≡ false = all.0 is in rw none rest
    go false is rest = rest

none_all : (e : ℕ) (i : Interval) (xs : List Item) → ((p : ℕ) → StandsIn e i p xs → ⊥) → AllByRecursion (IsElsewhere e i) (rows_in xs)
none_all e i [] none = tt
none_all e i (items.Mdb database ∷ xs) none = none_all e i xs (λ p s. none (suc p) (ahead e i (items.Mdb database) xs p s))
none_all e i (items.Row x ∷ xs) none = (none_here e i x xs (none 0), none_all e i xs (λ p s. none (suc p) (ahead e i (items.Row x) xs p s)))

none_later : (e : ℕ) (i : Interval) (front : ℕ) (xs : List Item) → ((p : ℕ) → StandsIn e i p xs → p < front) → AllByRecursion (IsElsewhere e i) (rows_in (drop front xs))
none_later e i zero xs none = none_all e i xs (λ p s. omega (arith, none p s))
none_later e i (suc front) [] none = tt
none_later e i (suc front) (x ∷ xs) none = none_later e i front xs (λ p s. omega (arith, none (suc p) (ahead e i x xs p s)))

-- the rows of a range, put in order last
pub range_in_order : (table : ℕ) (low high : ℤ) (history : List Row) → range_of table low high history ≡ order_by is_before (filter (is_in_time_range low high) (filter (is_in_table table) history))
range_in_order table low high history = filter-order rows_rank (is_in_time_range low high) (filter (is_in_table table) history)

range_append : (low high : ℤ) (xs zs : List Row) → AllByRecursion (λ z. is_in_table 0 z ≡ true → is_in_time_range low high z ≡ false) zs → range_of 0 low high (xs ++ zs) ≡ range_of 0 low high xs
range_append low high xs zs all =
    let q = is_in_time_range low high in
    let t = is_in_table 0 in
    let parts : filter q (filter t (xs ++ zs)) ≡ filter q (filter t xs) =
    ap (filter q) (filter-append t xs zs) ∙ filter-append q (filter t xs) (filter t zs)
    ∙ ap (λ (l : List Row). filter q (filter t xs) ++ l) (nothing_passes q t zs all) ∙ append-nil (filter q (filter t xs)) in
    range_in_order 0 low high (xs ++ zs) ∙ ap (order_by is_before) parts ∙ sym (range_in_order 0 low high xs)

-- an interval's rows are those below a front, where none stands at or after it
pub no_row_since : (e : ℕ) (i : Interval) (front : ℕ) (history : List Item) → ((p : ℕ) → StandsIn e i p history → p < front) → rows_of_interval e i history ≡ rows_of_interval e i (prefix front history)
no_row_since e i front history none =
    ap (range_of 0 (interval_start e i) (interval_end e i)) (ap rows_in (sym (take-append-drop front history)) ∙ rows_in-append (take front history) (drop front history))
    ∙ range_append (interval_start e i) (interval_end e i) (rows_in (take front history)) (rows_in (drop front history)) (none_later e i front history none)

pub rows_below : (e : ℕ) (i : Interval) (front : ℕ) (history : List Item) → NoneSince e i front history → rows_of_interval e i history ≡ rows_of_interval e i (prefix front history)
rows_below e i front history none = no_row_since e i front history (λ p s. none p (inl s))

-- ---- the database

no_database : (database : Database) (xs : List Item) → ((p : ℕ) → StandsDatabase p xs → ⊥) → fold database_after database xs ≡ database
no_database database [] none = refl
no_database database (items.Row row ∷ xs) none = no_database database xs (λ p d. none (suc p) d)
no_database database (items.Mdb next ∷ xs) none = absurd (none 0 (next, refl))

none_behind : (database : Database) (front : ℕ) (xs : List Item) → ((p : ℕ) → StandsDatabase p xs → p < front) → fold database_after database (drop front xs) ≡ database
none_behind database zero xs none = no_database database xs (λ p d. omega (arith, none p d))
none_behind database (suc front) [] none = refl
none_behind database (suc front) (x ∷ xs) none = none_behind database front xs (λ p d. omega (arith, none (suc p) d))

pub database_below : (first : Database) (e : ℕ) (i : Interval) (front : ℕ) (history : List Item) → NoneSince e i front history → database_in first history ≡ database_in first (prefix front history)
database_below first e i front history none =
    ap (database_in first) (sym (take-append-drop front history)) ∙ fold-append database_after first (take front history) (drop front history)
    ∙ none_behind (database_in first (take front history)) front history (λ p d. none p (inr d))
