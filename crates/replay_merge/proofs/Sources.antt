-- The rows of a partition of a history, and those of a range, are what a source gives of it.
use Rattle.std.proofs.Common.{◌≡◌, inl, inr, ℕ, ℤ, ◌<◌, ◌≤◌, List, [], ◌∷◌, Bool, true, false, cond, not, refl, sym, ap, ◌∙◌, subst, arith}
use Rattle.std.specs.Prelude.{filter, ◌&&◌, ◌==◌}
use Rattle.std.specs.List.{AllByRecursion}
use Rattle.std.specs.List.Sorted.{IsStrictlySortedBy}
use Rattle.std.specs.declared.cmp.Ordering.{Ordering}
use Rattle.std.specs.declared.cmp.Ordering.TheVariants.{Less, Equal, Greater}
use Rattle.std.specs.Ordering.{is_lt, ordering_reverse}
use Rattle.std.proofs.lemmas.Bool.Decides.{nat_tests}
use Rattle.std.proofs.lemmas.List.Elements.{recursion_from_All, All-from_recursion}
use Rattle.std.proofs.lemmas.List.Kept.{IsSortedBy-filter}
use Rattle.std.proofs.lemmas.List.Sorted.{All-permutation}
use Rattle.arch_types.specs.declared.row.Row.{Row}
use Rattle.arch_types.specs.Order.{key_cmp, is_before, order_by}
use Rattle.arch_types.specs.History.{is_in_table}
use Rattle.arch_types.specs.Table.{is_in_time_range, range_of, table_of}
use Rattle.arch_types.proofs.Ranks.{key_cmp_total, rows_rank}
use Rattle.arch_types.proofs.Ordered.{IsAscending}
use Rattle.arch_types.proofs.InOrder.{order_same, order_sorted}
use Rattle.partitions.specs.declared.partition.Partition.{Partition}
use Rattle.partitions.specs.Rows.{is_of_partition}
use Rattle.partitions.proofs.Filters.{none_pass}
use Rattle.replay_merge.specs.RowSource.{IsKeyedRow, IsRowIn, IsRowOf, AreRowsIn, AreRowsOf, IsRowSourceHistory, rows_of_partition}
use Rattle.replay_merge.proofs.Sorting.{ascending, tied_with_itself}
use Rattle.replay_merge.proofs.Tied.{is_tied, AtMostOne, one_after, one_in_table}

-- ---- ascending rows of which no two tie

nothing_behind : (row : Row) (rows : List Row) → AtMostOne (row ∷ rows) → rows ≡ []
nothing_behind row rows (inl none) = absurd cc
nothing_behind row rows (inr one) = let same = one.1 in cc

tail_by : (z row : Row) (rows : List Row) (b : Bool) → is_tied z row ≡ b → AtMostOne (filter (is_tied z) (row ∷ rows)) → AtMostOne (filter (is_tied z) rows)
tail_by z row rows true e one = let two = rw e at one in inl (nothing_behind row (filter (is_tied z) rows) two)
tail_by z row rows false e one = rw e at one

less_by : (x z : Row) (r s : Ordering) → key_cmp x.key z.key ≡ r → key_cmp z.key x.key ≡ s → is_lt s ≡ false → (not (is_lt r) && not (is_lt s)) ≡ false → r ≡ Less
less_by x z Less s er es not_less not_tied = refl
less_by x z Equal s er es not_less not_tied = let other = rw not_less at not_tied in absurd cc
less_by x z Greater s er es not_less not_tied =
    let back : key_cmp z.key x.key ≡ Less = key_cmp_total.antisymm z.key x.key ∙ ap ordering_reverse er in
    let less : s ≡ Less = sym es ∙ back in
    let no : is_lt Less ≡ false = subst (λ (o : Ordering). is_lt o ≡ false) less not_less in
    absurd cc

all_less : (x : Row) (rows : List Row) → AllByRecursion (λ z. is_before z x ≡ false) rows → filter (is_tied x) rows ≡ [] → AllByRecursion (λ z. key_cmp x.key z.key ≡ Less) rows
all_less x [] up none = tt
all_less x (z ∷ rows) up none = by (is_tied x z) refl (all_less x rows up.1)
  where
    by : (b : Bool) → is_tied x z ≡ b → (filter (is_tied x) rows ≡ [] → AllByRecursion (λ z. key_cmp x.key z.key ≡ Less) rows) → AllByRecursion (λ z. key_cmp x.key z.key ≡ Less) (z ∷ rows)
    by true e later = let some = rw e at none in absurd cc
    by false e later = (less_by x z (key_cmp x.key z.key) (key_cmp z.key x.key) refl refl up.0 e, later (rw e at none))

pub strictly : (rows : List Row) → IsAscending is_before rows → ((z : Row) → AtMostOne (filter (is_tied z) rows)) → IsStrictlySortedBy (λ (a b : Row). key_cmp a.key b.key) rows
unfolding IsStrictlySortedBy
strictly [] up one = tt
strictly (row ∷ rows) up one =
    let alone = rw (tied_with_itself rows_rank row) at (one row) in
    (all_less row rows up.0 (nothing_behind row (filter (is_tied row) rows) alone), strictly rows up.1 (λ z. tail_by z row rows (is_tied z row) refl (one z)))

-- ---- the rows of a partition

module _ {X : Type 0} (P Q : X → Type 0) where
  -- items of which one thing holds and that pass a test
  pub each_tested : (test : X → Bool) → ((x : X) → P x → test x ≡ true → Q x) → (xs : List X) → AllByRecursion P xs → AllByRecursion Q (filter test xs)
  each_tested test both [] all = tt
  each_tested test both (x ∷ xs) all = by (test x) refl (each_tested test both xs all.1)
    where
      by : (b : Bool) → test x ≡ b → AllByRecursion Q (filter test xs) → AllByRecursion Q (cond b (x ∷ filter test xs) (filter test xs))
      by true e later = (both x all.0 e, later)
      by false e later = later

-- a keyed row of a table
pub record IsKeyedIn (table : ℕ) (row : Row) : Type 0 where
  pub keyed : IsKeyedRow row
  pub in_table : row.table ≡ table

one_number : (a b : ℕ) → (a == b) ≡ true → b ≡ a
one_number a b e = grind (arith, nat_tests, e)

pub in_table_keyed : (table : ℕ) (history : List Row) → AllByRecursion IsKeyedRow history → AllByRecursion (IsKeyedIn table) (table_of table history)
in_table_keyed table history all =
    let those = filter (is_in_table table) history in
    let each = each_tested IsKeyedRow (IsKeyedIn table) (is_in_table table) (λ row keyed e. record { keyed = keyed; in_table = one_number table row.table e }) history all in
    recursion_from_All (IsKeyedIn table) (order_by is_before those) (All-permutation (IsKeyedIn table) those (order_by is_before those) (order_same is_before those) (All-from_recursion (IsKeyedIn table) those each))

-- those of a history are rows of the partition, in the order of their keys
pub partition_rows_are : (table : ℕ) (partition : Partition) (history : List Row) → IsRowSourceHistory history → AreRowsOf table partition (rows_of_partition table partition history)
partition_rows_are table partition history is =
    let rows = table_of table history in
    let test = is_of_partition partition in
    record {
      each = each_tested (IsKeyedIn table) (IsRowOf table partition) test (λ row both e. record { keyed = both.keyed; in_table = both.in_table; in_partition = e }) rows (in_table_keyed table history is.each);
      rising = strictly (filter test rows) (ascending rows_rank (filter test rows) (IsSortedBy-filter is_before rows_rank test rows (order_sorted (filter (is_in_table table) history)))) (λ z. one_after test z rows (one_in_table table z history is.once));
    }

-- ---- the rows of a range

-- those of a history are rows of the range, in the order of their keys
pub range_rows_are : (table : ℕ) (from to : ℤ) (history : List Row) → IsRowSourceHistory history → AreRowsIn table from to (range_of table from to history)
range_rows_are table from to history is =
    let rows = table_of table history in
    let test = is_in_time_range from to in
    record {
      each = each_tested (IsKeyedIn table) (IsRowIn table from to) test (λ row both e. record { keyed = both.keyed; in_table = both.in_table; in_range = e }) rows (in_table_keyed table history is.each);
      rising = strictly (filter test rows) (ascending rows_rank (filter test rows) (IsSortedBy-filter is_before rows_rank test rows (order_sorted (filter (is_in_table table) history)))) (λ z. one_after test z rows (one_in_table table z history is.once));
    }

-- ---- a table that no row is in

other_number : (a b n : ℕ) → b < n → n ≤ a → (a == b) ≡ false
other_number a b n less most = grind (arith, nat_tests, less, most)

none_in : (table n : ℕ) (rows : List Row) → AllByRecursion (λ row. row.table < n) rows → n ≤ table → AllByRecursion (λ row. is_in_table table row ≡ false) rows
none_in table n [] all most = tt
none_in table n (row ∷ rows) all most = (other_number table row.table n all.0 most, none_in table n rows all.1 most)

-- where all rows are in tables of lower numbers, it has none
pub no_rows_in : (table n : ℕ) (history : List Row) → AllByRecursion (λ row. row.table < n) history → n ≤ table → table_of table history ≡ []
no_rows_in table n history all most = ap (order_by is_before) (none_pass (is_in_table table) history (none_in table n history all most))

pub no_rows_of_table : (table n : ℕ) (partition : Partition) (history : List Row) → AllByRecursion (λ row. row.table < n) history → n ≤ table → rows_of_partition table partition history ≡ []
no_rows_of_table table n partition history all most = ap (filter (is_of_partition partition)) (no_rows_in table n history all most)

pub no_range_of_table : (table n : ℕ) (from to : ℤ) (history : List Row) → AllByRecursion (λ row. row.table < n) history → n ≤ table → range_of table from to history ≡ []
no_range_of_table table n from to history all most = ap (filter (is_in_time_range from to)) (no_rows_in table n history all most)
