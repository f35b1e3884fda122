-- The rows of the days of partitions.
use Rattle.std.proofs.Common.{◌≡◌, ℕ, ℤ, pos, ◌-◌, ◌-ℤ◌, ◌<◌, ◌≤◌, ◌<ℤ◌, ◌≤ℤ◌, List, ◌++◌, length, get_or, take, drop, Bool, true, false, nat_lt, refl, sym, ap, ◌∙◌, arith}
use Rattle.std.specs.Prelude.{filter, int_lt, reverse, ◌||◌}
use Rattle.std.specs.List.{AllWithin}
use Rattle.std.specs.List.Sorted.{IsPartitionedBy, IsPartitionPoint}
use Rattle.std.proofs.lemmas.Bool.Decides.{nat_tests}
use Rattle.std.proofs.lemmas.Int.{ints}
use Rattle.std.proofs.lemmas.List.{take-append-drop, reverse-append}
use Rattle.std.proofs.lemmas.List.Elements.{filter_agree}
use Rattle.std.proofs.lemmas.List.Folds.{list_any-append}
use Rattle.arch_types.specs.declared.row.Row.{Row}
use Rattle.arch_types.proofs.Ranks.{rows_rank}
use Rattle.partitions.specs.declared.partition.Partition.{Partition}
use Rattle.partitions.specs.Partitions.{AreRising}
use Rattle.partitions.specs.Rows.{is_of_partition, is_of_parts}
use Rattle.partitions.proofs.Parted.{day_rises}
use Rattle.replay_merge.specs.Fetch.{EndsDay}
use Rattle.replay_merge.specs.RowSource.{AreInKeyOrder}
use Rattle.replay_merge.proofs.Days.{days_in_order}
use Rattle.replay_merge.proofs.Sorting.{ascending}
use Rattle.replay_merge.proofs.Splits.{split}

-- ---- the partitions of the days before the last one

-- whether a partition's day is earlier
abbrev pub is_earlier : ℤ → Partition → Bool
is_earlier day partition = int_lt partition.day day

earlier_too : (day before other : ℤ) → before ≤ℤ other → int_lt other day ≡ true → int_lt before day ≡ true
earlier_too day before other le e = grind (arith, ints)

not_itself : (day : ℤ) → int_lt day day ≡ true → ⊥
not_itself day e = let less : day <ℤ day = grind (arith, ints) in omega (arith, ints)

up_to : (day other : ℤ) → int_lt other day ≡ true → other ≤ℤ (day -ℤ pos 1)
up_to day other e = let less : other <ℤ day = grind (arith, ints) in omega (arith, ints)

behind : (day other : ℤ) → int_lt other day ≡ false → (day -ℤ pos 1) <ℤ other
behind day other e = let not_less : day ≤ℤ other = grind (arith, ints) in omega (arith, ints)

pub last_parted : (parts : List Partition) (day : ℤ) → AreRising parts → IsPartitionedBy (is_earlier day) parts
last_parted parts day rising i j d le h test =
    earlier_too day (get_or parts i d).day (get_or parts j d).day (day_rises parts rising i j d le h) test

pub ends_before : (parts : List Partition) (day : ℤ) (n : ℕ) → IsPartitionPoint (λ partition. is_earlier day partition ≡ true) (λ partition. is_earlier day partition ≡ false) parts n → EndsDay parts n
ends_before parts day n point =
    (day -ℤ pos 1, (λ k d low high. up_to day (get_or parts k d).day (point.0 k d low high), λ k d low high. behind day (get_or parts k d).day (point.1 k d low high)))

pub some_last : (parts : List Partition) (d : Partition) (n : ℕ) → 0 < length parts → AllWithin (λ partition. is_earlier (get_or parts (length parts - 1) d).day partition ≡ true) parts 0 n → n < length parts
some_last parts d n some all = by (nat_lt n (length parts)) refl
  where
    by : (b : Bool) → nat_lt n (length parts) ≡ b → n < length parts
    by true e = grind (arith, nat_tests)
    by false e =
        let beyond : length parts ≤ n = grind (arith, nat_tests) in
        absurd (not_itself (get_or parts (length parts - 1) d).day (all (length parts - 1) d (omega arith) (omega (arith, some, beyond))))

-- ---- rows in key order

module _ (parts first later : List Partition) (n : ℕ) (ends : EndsDay parts n) (is_first : first ≡ take n parts) (is_later : later ≡ drop n parts) where
  -- those of the first days stand before those of the others
  pub forwards : (rows : List Row) → AreInKeyOrder rows → filter (is_of_parts parts) rows ≡ filter (is_of_parts first) rows ++ filter (is_of_parts later) rows
  forwards rows in_order =
      filter_agree (is_of_parts parts) (λ row. is_of_parts (take n parts) row || is_of_parts (drop n parts) row)
      (λ row. ap (λ (ps : List Partition). is_of_parts ps row) (sym (take-append-drop n parts)) ∙ list_any-append (λ partition. is_of_partition partition row) (take n parts) (drop n parts)) rows
      ∙ split rows_rank (is_of_parts (take n parts)) (is_of_parts (drop n parts)) (days_in_order parts n ends) rows (ascending rows_rank rows in_order)
      ∙ ap (λ (ps : List Partition). filter (is_of_parts ps) rows ++ filter (is_of_parts (drop n parts)) rows) (sym is_first)
      ∙ ap (λ (ps : List Partition). filter (is_of_parts first) rows ++ filter (is_of_parts ps) rows) (sym is_later)

  -- from the last one on it is the other way round
  pub backwards : (rows : List Row) → AreInKeyOrder rows → reverse (filter (is_of_parts parts) rows) ≡ reverse (filter (is_of_parts later) rows) ++ reverse (filter (is_of_parts first) rows)
  backwards rows in_order = ap reverse (forwards rows in_order) ∙ reverse-append (filter (is_of_parts first) rows) (filter (is_of_parts later) rows)
