-- The rows of several partitions in a range.
use Rattle.std.proofs.Common.{◌≡◌, ℕ, ℤ, ◌+◌, ◌<◌, List, [], ◌∷◌, ◌++◌, length, get_or, take, Bool, true, false, append_assoc, sym, ◌∙◌, ap, subst, refl}
use Rattle.std.specs.Prelude.{filter, IsPermutation, IsSortedByKey}
use Rattle.std.specs.List.{flat_map}
use Rattle.std.proofs.lemmas.List.Kept.{IsSortedBy-filter}
use Rattle.std.proofs.lemmas.List.Sorted.{IsPermutation-refl, IsPermutation-trans}
use Rattle.arch_types.specs.declared.row.Row.{Row}
use Rattle.arch_types.specs.Order.{key_cmp, is_before}
use Rattle.arch_types.specs.Table.{is_in_time_range}
use Rattle.arch_types.proofs.InOrder.{order_sorted}
use Rattle.arch_types.proofs.Ranks.{rows_rank}
use Rattle.partitions.specs.declared.partition.Partition.{Partition}
use Rattle.partitions.specs.Partitions.{AreRising}
use Rattle.partitions.specs.Rows.{is_of_partition, is_of_parts}
use Rattle.partitions.proofs.Filters.{filter_swap}
use Rattle.partitions.proofs.Parted.{parted}
use Rattle.yarch_table.specs.declared.table.Stored.{Stored}
use Rattle.yarch_table.specs.Stored.{rows_of, rows_below, seen_at, seen_between}
use Rattle.archive_history.specs.PartitionedTable.{HaveOwnKeys}
use Rattle.archive_history.proofs.KeyOrder.{only_order, own-seen}
use Rattle.archive_history.proofs.Steps.{flat_more}

-- ---- one row more that is looked at

module _ (test : Row → Bool) (rows : List Row) (row : Row) (rest all : List Row) (so_far : rows ++ filter test (row ∷ rest) ≡ all) where
  pub row_kept : test row ≡ true → (rows ++ row ∷ []) ++ filter test rest ≡ all
  row_kept passes =
      let first : filter test (row ∷ rest) ≡ row ∷ filter test rest = rw passes refl in
      append_assoc rows (row ∷ []) (filter test rest) ∙ ap (λ (l : List Row). rows ++ l) (sym first) ∙ so_far

  pub row_passed_by : test row ≡ false → rows ++ filter test rest ≡ all
  row_passed_by fails =
      let first : filter test (row ∷ rest) ≡ filter test rest = rw fails refl in
      ap (λ (l : List Row). rows ++ l) (sym first) ∙ so_far

-- ---- one partition more that is read

module _ (stored : List Stored) (front : ℕ) (from to : ℤ) (parts : List Partition) where
  -- the rows of some partitions, those of each behind those of the one before
  abbrev pub by_partitions : List Partition → List Row
  by_partitions some = flat_map (λ partition. filter (is_of_partition partition) (seen_between front from to stored)) some

  pub one_read : (i : ℕ) (partition : Partition) (rows given all : List Row) → i < length parts → partition ≡ get_or parts i partition → rows ≡ by_partitions (take i parts) →
      given ≡ filter (is_of_partition partition) (seen_at front stored) → all ≡ rows ++ filter (is_in_time_range from to) given → all ≡ by_partitions (take (i + 1) parts)
  one_read i partition rows given all within is so_far got more =
      more ∙ ap (λ (l : List Row). l ++ filter (is_in_time_range from to) given) so_far
      ∙ ap (λ (l : List Row). by_partitions (take i parts) ++ l) (ap (filter (is_in_time_range from to)) got ∙ filter_swap (is_in_time_range from to) (is_of_partition partition) (seen_at front stored))
      ∙ sym (flat_more (λ p. filter (is_of_partition p) (seen_between front from to stored)) parts i partition within is)

  -- put in order, they are the rows of the range that stand in one of them
  pub parts_in_order : (gathered ordered : List Row) → HaveOwnKeys (rows_of stored) → AreRising parts → gathered ≡ by_partitions parts → IsPermutation gathered ordered →
      IsSortedByKey (λ row. row.key) key_cmp ordered → ordered ≡ filter (is_of_parts parts) (seen_between front from to stored)
  parts_in_order gathered ordered own rising got moved up =
      let range = seen_between front from to stored in
      let those = filter (is_of_parts parts) range in
      let apart : HaveOwnKeys those = own-seen (is_of_parts parts) (is_in_time_range from to) front stored own in
      let same : IsPermutation those ordered = IsPermutation-trans those gathered ordered (subst (IsPermutation those) (sym got) (parted parts range rising)) moved in
      let sorted = IsSortedBy-filter is_before rows_rank (is_of_parts parts) range (IsSortedBy-filter is_before rows_rank (is_in_time_range from to) (seen_at front stored) (order_sorted (rows_below front stored))) in
      only_order those ordered apart same up ∙ sym (only_order those those apart (IsPermutation-refl those) sorted)
