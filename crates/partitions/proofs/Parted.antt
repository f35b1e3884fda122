-- Rows of several partitions.
use Rattle.std.proofs.Common.{◌≡◌, inl, inr, ℕ, zero, suc, ℤ, pos, ◌+◌, ◌-◌, ◌<◌, ◌≤◌, ◌<ℤ◌, ◌≤ℤ◌, ◌+ℤ◌, List, [], ◌∷◌, ◌++◌, length, get_or, Bool, true, false, Ok, Err, nat_lt, refl, sym, ◌∙◌, ap, subst, arith}
use Rattle.std.specs.Prelude.{filter, int_lt, IsPermutation, Result}
use Rattle.std.specs.List.{AllByRecursion, flat_map, list_any}
use Rattle.std.specs.List.Sorted.{IsBinarySearchResult, IsSearchInRange, IsSortedBy}
use Rattle.std.specs.Ordering.{is_eq, is_lt}
use Rattle.std.specs.Result.{is_ok}
use Rattle.std.specs.declared.cmp.Ordering.{Ordering}
use Rattle.std.specs.declared.cmp.Ordering.TheVariants.{Less, Equal, Greater}
use Rattle.std.proofs.lemmas.Bool.Decides.{nat_tests}
use Rattle.std.proofs.lemmas.Cmp.{tied_itself}
use Rattle.std.proofs.lemmas.Int.{ints}
use Rattle.std.proofs.lemmas.List.Folds.{list_any_none, list_any_at, Any-from_list_any}
use Rattle.std.proofs.lemmas.List.Sorted.{IsPermutation-refl, IsPermutation-trans, IsPermutation-append_right, searchable_from_sorted}
use Rattle.std.proofs.lemmas.Map.Keys.{Less-from_sorted, sorted_head, sorted_tail}
use Rattle.arch_types.specs.declared.row.Row.{Row}
use Rattle.arch_types.specs.Table.{is_in_time_range}
use Rattle.block_map.proofs.Rising.{flip_less}
use Rattle.time_text.specs.Day.{day_of}
use Rattle.time_text.proofs.DayFacts.{days_rise}
use Rattle.partitions.specs.declared.partition.Partition.{Partition}
use Rattle.partitions.specs.Partition.{partition_cmp, partition_of}
use Rattle.partitions.specs.Partitions.{AreRising}
use Rattle.partitions.specs.Rows.{is_of_partition, is_of_parts}
use Rattle.partitions.proofs.Filters.{none_pass, either_moved}
use Rattle.partitions.proofs.Order.{IsBefore, before_from_less, partition_cmp_total, exact_partitions}

pub equal_by : (r : Ordering) → is_eq r ≡ true → r ≡ Equal
equal_by Less is = absurd cc
equal_by Equal is = refl
equal_by Greater is = absurd cc

-- a row stands in no other partition than its own
pub its_partition : (partition : Partition) (row : Row) → is_of_partition partition row ≡ true → partition ≡ partition_of row.key.time row.pname
its_partition partition row is = exact_partitions partition (partition_of row.key.time row.pname) (equal_by _ is)

pub its_day : (partition : Partition) (row : Row) → is_of_partition partition row ≡ true → partition.day ≡ day_of row.key.time
its_day partition row is = ap (λ (p : Partition). p.day) (its_partition partition row is)

abbrev pub no_partition : Partition
no_partition = record { day = pos 0; pname = 0 }

-- ---- the rows of each are those of all

-- a row of one partition stands in none of those above it
pub in_none_above : (partition : Partition) (row : Row) → is_of_partition partition row ≡ true → (parts : List Partition) → AllByRecursion (λ p. partition_cmp partition p ≡ Less) parts → is_of_parts parts row ≡ false
in_none_above partition row is [] all = refl
in_none_above partition row is (p ∷ parts) all = by (is_of_partition p row) refl (in_none_above partition row is parts all.1)
  where
    by : (b : Bool) → is_of_partition p row ≡ b → is_of_parts parts row ≡ false → is_of_parts (p ∷ parts) row ≡ false
    by true e none =
        let same : partition ≡ p = its_partition partition row is ∙ sym (its_partition p row e) in
        let itself : partition_cmp partition p ≡ Equal = subst (λ (q : Partition). partition_cmp partition q ≡ Equal) same (tied_itself partition_cmp_total partition) in
        let less = all.0 in absurd cc
    by false e none = rw e none

none_of_none : (rows : List Row) → AllByRecursion (λ row. is_of_parts [] row ≡ false) rows
none_of_none [] = tt
none_of_none (row ∷ rows) = (refl, none_of_none rows)

-- the rows of some partitions are those of each, in another order
pub parted : (parts : List Partition) (rows : List Row) → AreRising parts → IsPermutation (filter (is_of_parts parts) rows) (flat_map (λ partition. filter (is_of_partition partition) rows) parts)
parted [] rows rising = subst (λ (l : List Row). IsPermutation l []) (sym (none_pass (is_of_parts []) rows (none_of_none rows))) (IsPermutation-refl [])
parted (partition ∷ parts) rows rising =
    let first = filter (is_of_partition partition) rows in
    let rest = filter (is_of_parts parts) rows in
    let each = flat_map (λ p. filter (is_of_partition p) rows) parts in
    IsPermutation-trans (filter (is_of_parts (partition ∷ parts)) rows) (first ++ rest) (first ++ each)
    (either_moved (is_of_partition partition) (is_of_parts parts) (λ row is. in_none_above partition row is parts (sorted_head partition_cmp partition parts rising)) rows)
    (IsPermutation-append_right first rest each (parted parts rows (sorted_tail partition_cmp partition parts rising)))

-- ---- a partition is found by halving

below_before : (r : Ordering) → r ≡ Greater → is_lt r ≡ false
below_before r e = ap is_lt e

searchable : (parts : List Partition) → AreRising parts → IsSortedBy (λ a b. is_lt (partition_cmp a b)) parts
searchable parts rising k d low h =
    below_before (partition_cmp (get_or parts (k + 1) d) (get_or parts k d))
    (flip_less partition_cmp_total (get_or parts k d) (get_or parts (k + 1) d) (Less-from_sorted partition_cmp parts k (k + 1) d rising (omega arith) h))

pub halved : (parts : List Partition) (partition : Partition) (r : Result ℕ ℕ) → AreRising parts → IsSearchInRange r (length parts) → IsBinarySearchResult (λ y. partition_cmp y partition) parts r →
    is_ok r ≡ list_any (λ p. is_eq (partition_cmp p partition)) parts
halved parts partition (Ok i) rising within found = sym (list_any_at (λ p. is_eq (partition_cmp p partition)) parts i no_partition within (ap is_eq (found no_partition)))
halved parts partition (Err i) rising within found =
    let point = found (searchable_from_sorted partition_cmp_total (λ (p : Partition). p) parts partition (searchable parts rising)) in
    sym (list_any_none (λ p. is_eq (partition_cmp p partition)) parts (λ k d h. by k d (point.0 k d (omega arith)) (λ from. point.1 k d from h) (nat_lt k i) refl))
  where
    by : (k : ℕ) (d : Partition) → (k < i → partition_cmp (get_or parts k d) partition ≡ Less) → (i ≤ k → partition_cmp (get_or parts k d) partition ≡ Greater) → (b : Bool) → nat_lt k i ≡ b → is_eq (partition_cmp (get_or parts k d) partition) ≡ false
    by k d below above true e = let before : k < i = grind (arith, nat_tests) in ap is_eq (below before)
    by k d below above false e = let behind : i ≤ k = grind (arith, nat_tests) in ap is_eq (above behind)

-- ---- days

pub earlier : (a b : ℤ) → day_of a <ℤ day_of b → a <ℤ b
earlier a b days = by (int_lt a b) refl
  where
    by : (t : Bool) → int_lt a b ≡ t → a <ℤ b
    by true e = grind (arith, ints)
    by false e = let back : b ≤ℤ a = grind (arith, ints) in let rise = days_rise b a back in absurd (omega (arith, ints))

pub day_rises : (parts : List Partition) → AreRising parts → (i j : ℕ) (d : Partition) → i ≤ j → j < length parts → (get_or parts i d).day ≤ℤ (get_or parts j d).day
day_rises parts rising i j d le h = by (nat_lt i j) refl
  where
    from : IsBefore (get_or parts i d) (get_or parts j d) → (get_or parts i d).day ≤ℤ (get_or parts j d).day
    from (inl days) = omega (arith, ints, days)
    from (inr same) = let day = same.0 in omega (arith, ints, day)

    by : (b : Bool) → nat_lt i j ≡ b → (get_or parts i d).day ≤ℤ (get_or parts j d).day
    by true e = let less : i < j = grind (arith, nat_tests) in from (before_from_less _ _ (Less-from_sorted partition_cmp parts i j d rising less h))
    by false e = let same : i ≡ j = grind (arith, nat_tests) in let P : ℕ → Type 0 = λ k. (get_or parts i d).day ≤ℤ (get_or parts k d).day in subst P same (omega (arith, ints))

-- within a list the default is never given
pub default_free : {X : Type 0} (xs : List X) (i : ℕ) (d e : X) → i < length xs → get_or xs i d ≡ get_or xs i e
default_free [] i d e within = absurd (omega (arith, within))
default_free (x ∷ xs) zero d e within = refl
default_free (x ∷ xs) (suc i) d e within = default_free xs i d e (omega (arith, within))

-- a row of a time in a range
in_range_by : (from to : ℤ) (row : Row) → from ≤ℤ row.key.time → row.key.time <ℤ to → is_in_time_range from to row ≡ true
in_range_by from to row low high =
    let a : int_lt row.key.time from ≡ false = grind (arith, ints) in
    let b : int_lt row.key.time to ≡ true = grind (arith, ints) in
    rw (a, b) refl

-- a range from before the first day's first time to behind the last day's last one has all rows of the partitions
pub in_whole_days : (parts : List Partition) (before from to : ℤ) (d : Partition) → AreRising parts → day_of before <ℤ (get_or parts 0 d).day → (get_or parts (length parts - 1) d).day <ℤ day_of to →
    from ≤ℤ (before +ℤ pos 1) → (row : Row) → is_of_parts parts row ≡ true → is_in_time_range from to row ≡ true
in_whole_days parts before from to d rising low high next row is =
    let any = Any-from_list_any (λ partition. is_of_partition partition row) parts is in
    let k = any.0 in
    let within : k < length parts = any.2 in
    let at : get_or parts k d ≡ any.1 = default_free parts k d any.1 within ∙ any.3 in
    let day : (get_or parts k d).day ≡ day_of row.key.time = ap (λ (p : Partition). p.day) at ∙ its_day any.1 row any.4 in
    let since = day_rises parts rising 0 k d (omega arith) within in
    let until = day_rises parts rising k (length parts - 1) d (omega (arith, within)) (omega (arith, within)) in
    let behind : day_of before <ℤ day_of row.key.time = rw (← day) (omega (arith, ints, low, since)) in
    let ahead : day_of row.key.time <ℤ day_of to = rw (← day) (omega (arith, ints, high, until)) in
    let after = earlier before row.key.time behind in
    in_range_by from to row (omega (arith, ints, next, after)) (earlier row.key.time to ahead)
