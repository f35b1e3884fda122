-- The rows of a partition, or of a range, found in a history and put in order, and where a row stands.
use Rattle.std.proofs.Common.{◌≡◌, ℕ, zero, suc, ℤ, List, [], ◌∷◌, ◌++◌, take, Bool, true, false, Option, refl, sym, ap, ◌∙◌, subst, arith}
use Rattle.std.specs.Prelude.{filter, Contains, IfSome, ◌&&◌}
use Rattle.std.specs.List.{AllByRecursion, list_any}
use Rattle.std.specs.List.Sorted.{IsSortedBy, IsStrictlySortedBy, IsPermutation}
use Rattle.std.proofs.lemmas.Bool.{or_from, or_parts}
use Rattle.std.proofs.lemmas.Bool.Decides.{nat_tests}
use Rattle.std.proofs.lemmas.List.Elements.{recursion_from_All, All-from_recursion}
use Rattle.std.proofs.lemmas.List.Sorted.{All-permutation}
use Rattle.arch_types.specs.declared.key.Key.{Key}
use Rattle.arch_types.specs.declared.row.Row.{Row}
use Rattle.arch_types.specs.Order.{is_before, key_cmp, order_by}
use Rattle.arch_types.specs.History.{is_in_table, is_duplicate_of}
use Rattle.arch_types.specs.Table.{is_in_time_range, range_of, table_of}
use Rattle.arch_types.proofs.Ranks.{rows_rank}
use Rattle.arch_types.proofs.Ordered.{filter-order}
use Rattle.arch_types.proofs.InOrder.{order_sorted}
use Rattle.arch_types.proofs.Histories.{keeps_history}
use Rattle.partitions.specs.declared.partition.Partition.{Partition}
use Rattle.replay_merge.specs.RowSource.{AreRowSourceHistories, IsKeyedRow, IsPositionOf, IsRowSourceHistory, rows_of_partition}
use Rattle.replay_merge.proofs.Sorting.{ascending, same_sorted}
use Rattle.replay_merge.proofs.Tied.{is_tied, AtMostOne, one_tied, one_after, ordered_one, first_rows}
use Rattle.replay_merge.proofs.Reading.{all_both}
use Rattle.replay_merge.proofs.Giving.{partition_given, table_given}
use Rattle.replay_merge.proofs.Pieces.{all_among, all_first}
use Rattle.replay_merge.proofs.Sources.{each_tested, strictly}
use Rattle.select_tests.specs.MemSource.{rows_at_fronts}
use Rattle.text_forms.specs.ClockTime.{IsClockTime, is_clock_time}
use Rattle.std.proofs.lemmas.Int.{ints}

-- ---- what is found

module _ (table : ℕ) (test : Row → Bool) where
  -- whether a row is of the table and passes the test
  abbrev both : Row → Bool
  both row = is_in_table table row && test row

  one_test : (row : Row) (rows : List Row) (b c : Bool) → is_in_table table row ≡ b → test row ≡ c → filter both rows ≡ filter test (filter (is_in_table table) rows) → filter both (row ∷ rows) ≡ filter test (filter (is_in_table table) (row ∷ rows))
  one_test row rows true true eb ec same = rw (eb, ec) (ap (λ (l : List Row). row ∷ l) same)
  one_test row rows true false eb ec same = rw (eb, ec) same
  one_test row rows false c eb ec same = rw eb same

  two_tests : (rows : List Row) → filter both rows ≡ filter test (filter (is_in_table table) rows)
  two_tests [] = refl
  two_tests (row ∷ rows) = one_test row rows (is_in_table table row) (test row) refl refl (two_tests rows)

  module _ (Q : Row → Type 0) (each : (row : Row) → IsKeyedRow row → row.table ≡ table → test row ≡ true → Q row) where
    found_each : (rows : List Row) → AllByRecursion IsKeyedRow rows → AllByRecursion Q (filter both rows)
    found_each [] all = tt
    found_each (row ∷ rows) all = by (is_in_table table row) (test row) refl refl (found_each rows all.1)
      where
        by : (b c : Bool) → is_in_table table row ≡ b → test row ≡ c → AllByRecursion Q (filter both rows) → AllByRecursion Q (filter both (row ∷ rows))
        by true true eb ec later =
            let number : row.table ≡ table = grind (arith, nat_tests, eb) in
            rw (eb, ec) (each row all.0 number ec, later)
        by true false eb ec later = rw (eb, ec) later
        by false c eb ec later = rw eb later

  module _ (rows found sorted : List Row) (history : IsRowSourceHistory rows) (got : found ≡ filter both rows) (same : IsPermutation found sorted)
      (in_order : IsSortedBy is_before sorted) (stable : (z : Row) → filter (is_tied z) sorted ≡ filter (is_tied z) found) where
    twice : found ≡ filter test (filter (is_in_table table) rows)
    twice = got ∙ two_tests rows

    one : (z : Row) → AtMostOne (filter (is_tied z) found)
    one z = subst (λ (l : List Row). AtMostOne (filter (is_tied z) l)) (sym twice) (one_after test z (filter (is_in_table table) rows) (one_tied table z rows history.once))

    are_sorted : sorted ≡ order_by is_before found
    are_sorted = same_sorted rows_rank sorted (order_by is_before found) (ascending rows_rank sorted in_order) (ascending rows_rank (order_by is_before found) (order_sorted found))
        (λ z. stable z ∙ sym (filter-order rows_rank (is_tied z) found ∙ ordered_one (filter (is_tied z) found) (one z)))

    -- put in order, they are those of the table that pass
    pub are_found : (front : ℕ) (all : List Row) → rows ≡ take front all → sorted ≡ filter test (table_of table (take front all))
    are_found front all is =
        are_sorted ∙ ap (order_by is_before) twice ∙ sym (filter-order rows_rank test (filter (is_in_table table) rows))
        ∙ ap (λ (l : List Row). filter test (table_of table l)) is

    pub each_found : (Q : Row → Type 0) → ((row : Row) → IsKeyedRow row → row.table ≡ table → test row ≡ true → Q row) → AllByRecursion Q sorted
    each_found Q each = recursion_from_All Q sorted (All-permutation Q found sorted same (All-from_recursion Q found (subst (AllByRecursion Q) (sym got) (found_each Q each rows history.each))))

    pub rising_found : IsStrictlySortedBy (λ (a b : Row). key_cmp a.key b.key) sorted
    rising_found = strictly sorted (ascending rows_rank sorted in_order) (λ z. subst AtMostOne (sym (stable z)) (one z))

-- the rows of a partition of the first rows of some are of these
pub are_its : (table : ℕ) (partition : Partition) (front : ℕ) (rows : List Row) → AllByRecursion (Contains rows) (rows_of_partition table partition (take front rows))
are_its table partition front rows = partition_given (Contains rows) table partition (take front rows) (all_first (Contains rows) front rows (all_among rows))

-- those of a range, too
pub range_its : (table : ℕ) (from to : ℤ) (front : ℕ) (rows : List Row) → AllByRecursion (Contains rows) (range_of table from to (take front rows))
range_its table from to front rows =
    let first = take front rows in
    let P : Row → Type 0 = Contains rows in
    each_tested P P (is_in_time_range from to) (λ row may is. may) (table_of table first) (table_given P table first (all_first P front rows (all_among rows)))

-- ---- a row more

pub added : (rows : List Row) (row : Row) → IsRowSourceHistory rows → IsKeyedRow row → list_any (is_duplicate_of row) rows ≡ false → IsRowSourceHistory (rows ++ row ∷ [])
added rows row history keyed none = record {
  once = (let kept = keeps_history rows (row ∷ []) history.once in rw none at kept);
  each = all_both IsKeyedRow rows (row ∷ []) history.each (keyed, tt);
}

pub first_known : (n : ℕ) (rows : List Row) → IsRowSourceHistory rows → IsRowSourceHistory (take n rows)
first_known n rows history = record { once = first_rows n rows history.once; each = all_first IsKeyedRow n rows history.each }

pub known_sound : (is_known : Bool) (rows : List Row) → IsRowSourceHistory rows → IfSome (rows_at_fronts is_known rows) AreRowSourceHistories
known_sound true rows history = λ front. first_known front rows history
known_sound false rows history = tt

-- where no row passes, none of the first ones does
pub none_first : (passes : Row → Bool) (n : ℕ) (rows : List Row) → list_any passes rows ≡ false → list_any passes (take n rows) ≡ false
none_first passes zero rows none = refl
none_first passes (suc n) [] none = refl
none_first passes (suc n) (row ∷ rows) none =
    let both = or_parts (passes row) (list_any passes rows) none in
    or_from (passes row) (list_any passes (take n rows)) both.0 (none_first passes n rows both.1)

-- the position of a row, where the rows are told
pub known_position : (is_known : Bool) (rows : List Row) (table : ℕ) (key : Key) (found : Option ℕ) → IsPositionOf (λ front. take front rows) table key found
    → IfSome (rows_at_fronts is_known rows) (λ history. IsPositionOf history table key found)
known_position true rows table key found is = is
known_position false rows table key found is = tt

pub clock_true : (time : ℤ) → is_clock_time time ≡ true → IsClockTime time
unfolding is_clock_time
clock_true time is = grind (arith, ints)
