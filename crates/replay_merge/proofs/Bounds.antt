-- Partitions that may hold what is asked hold each row that is asked.
use Rattle.std.proofs.Common.{◌≡◌, ◌↔◌, ℕ, ℤ, ◌<ℤ◌, ◌≤ℤ◌, List, ◌++◌, map, get_or, Option, Some, None, Bool, true, false, not, ◌&&◌, refl, sym, ap, ◌∙◌, subst, nat_eq, arith}
use Rattle.std.specs.Prelude.{filter, Contains, int_lt}
use Rattle.std.specs.List.{All, list_any}
use mathlib.Core.List.{IsPrefix}
use Rattle.std.proofs.lemmas.Bool.Decides.{nat_tests}
use Rattle.std.proofs.lemmas.Cmp.{tied_itself}
use Rattle.std.proofs.lemmas.Int.{ints}
use Rattle.std.proofs.lemmas.List.{length-map, get_or-map}
use Rattle.std.proofs.lemmas.List.Elements.{All-filter, All-weaker, All-contains_itself, filter_passes, filter-append, recursion_from_All, Contains-append_left}
use Rattle.std.proofs.lemmas.List.Folds.{Any-from_list_any, list_any-from_Any}
use Rattle.std.proofs.lemmas.List.Sorted.{All-permutation}
use Rattle.arch_types.specs.declared.row.Row.{Row}
use Rattle.arch_types.specs.Order.{is_before}
use Rattle.arch_types.specs.History.{is_in_table}
use Rattle.arch_types.specs.Table.{is_in_time_range, table_of}
use Rattle.arch_types.proofs.InOrder.{order_same}
use Rattle.partitions.specs.declared.partition.Partition.{Partition}
use Rattle.partitions.specs.declared.bounds.Bounds.{Bounds}
use Rattle.partitions.specs.Partition.{partition_of}
use Rattle.partitions.specs.Bounds.{IsAmong, MayHold}
use Rattle.partitions.specs.Rows.{is_of_partition, is_of_parts}
use Rattle.partitions.proofs.Order.{partition_cmp_total}
use Rattle.replay_merge.specs.Replay.{is_listed_name, has_listed_name, rows_asked, HoldsEachRow}
use Rattle.replay_merge.specs.Laws.{HoldsPruned}

same_number : (x : ℕ) → nat_eq x x ≡ true
same_number x = grind (arith, nat_tests)

one_number : (x y : ℕ) → nat_eq x y ≡ true → y ≡ x
one_number x y e = grind (arith, nat_tests)

-- the test of packet names is whether a name is among those listed
pub listed_is_among : (names : Option (List ℕ)) (pname : ℕ) → (is_listed_name names pname ≡ true) ↔ IsAmong names pname
listed_is_among None pname = (λ is. tt, λ is. refl)
listed_is_among (Some names) pname = (to, from)
  where
    to : list_any (nat_eq pname) names ≡ true → Contains names pname
    to is =
        let any = Any-from_list_any (nat_eq pname) names is in
        let P : ℕ → Type 0 = λ x. get_or names any.0 x ≡ x in
        (any.0, any.2, subst P (one_number pname any.1 any.4) any.3)

    from : Contains names pname → list_any (nat_eq pname) names ≡ true
    from is = list_any-from_Any (nat_eq pname) names (is.0, pname, is.1, is.2, same_number pname)

-- the partition of a row
abbrev pub own_partition : Row → Partition
own_partition row = partition_of row.key.time row.pname

in_own : (row : Row) → is_of_partition (own_partition row) row ≡ true
in_own row = rw (tied_itself partition_cmp_total (own_partition row)) refl

mapped : (rows : List Row) (row : Row) → Contains rows row → Contains (map own_partition rows) (own_partition row)
mapped rows row is =
    (is.0, omega (arith, is.1, length-map rows own_partition), get_or-map own_partition rows is.0 row (own_partition row) is.1 ∙ ap own_partition is.2)

within_range : (from to : ℤ) (row : Row) → is_in_time_range from to row ≡ true → (from ≤ℤ row.key.time) × (row.key.time <ℤ to)
within_range from to row is = by (int_lt row.key.time from) (int_lt row.key.time to) refl refl is
  where
    by : (a b : Bool) → int_lt row.key.time from ≡ a → int_lt row.key.time to ≡ b → (not a && b) ≡ true → (from ≤ℤ row.key.time) × (row.key.time <ℤ to)
    by true b ea eb is = absurd cc
    by false true ea eb is = (grind (arith, ints), grind (arith, ints))
    by false false ea eb is = absurd cc

module _ (bounds : Bounds) (table : ℕ) (parts : List Partition) (first history : List Row)
    (enough : HoldsPruned bounds (filter (is_in_table table) history) parts) (begins : IsPrefix first history) where
  rows : List Row
  rows = filter (is_in_table table) history

  prefix_rows : All (Contains rows) (filter (is_in_table table) first)
  unfolding rows
  prefix_rows =
      let here = filter (is_in_table table) first in
      let rest = filter (is_in_table table) begins.0 in
      let whole : here ++ rest ≡ filter (is_in_table table) history = sym (filter-append (is_in_table table) first begins.0) ∙ ap (filter (is_in_table table)) begins.1 in
      subst (λ (l : List Row). All (Contains l) here) whole (All-weaker (Contains here) (Contains (here ++ rest)) (λ row is. Contains-append_left here rest row is) here (All-contains_itself here))

  one_held : (row : Row) → Contains rows row → is_in_time_range bounds.from bounds.to row ≡ true → has_listed_name bounds.names row ≡ true → is_of_parts parts row ≡ true
  unfolding rows
  one_held row there time name =
      let range = within_range bounds.from bounds.to row time in
      let may : MayHold bounds (own_partition row) = record { day = (row.key.time, range.0, range.1, refl); name = (listed_is_among bounds.names row.pname).0 name } in
      let at = enough (own_partition row) (mapped (filter (is_in_table table) history) row there) may in
      list_any-from_Any (λ partition. is_of_partition partition row) parts (at.0, own_partition row, at.1, at.2, in_own row)

  -- partitions that hold each that has a row of the table, and may hold one in the bounds, hold each row that is asked
  pub pruned_is_enough : HoldsEachRow parts (rows_asked table bounds.from bounds.to bounds.names first)
  pruned_is_enough =
      let asked = rows_asked table bounds.from bounds.to bounds.names first in
      let of_table = table_of table first in
      let in_range = filter (is_in_time_range bounds.from bounds.to) of_table in
      let in_table : All (Contains rows) of_table = All-permutation (Contains rows) (filter (is_in_table table) first) of_table (order_same is_before (filter (is_in_table table) first)) prefix_rows in
      let there : All (Contains rows) asked = All-filter (has_listed_name bounds.names) (Contains rows) in_range (All-filter (is_in_time_range bounds.from bounds.to) (Contains rows) of_table in_table) in
      let times : All (λ row. is_in_time_range bounds.from bounds.to row ≡ true) asked = All-filter (has_listed_name bounds.names) (λ row. is_in_time_range bounds.from bounds.to row ≡ true) in_range (filter_passes (is_in_time_range bounds.from bounds.to) of_table) in
      let names : All (λ row. has_listed_name bounds.names row ≡ true) asked = filter_passes (has_listed_name bounds.names) in_range in
      recursion_from_All (λ row. is_of_parts parts row ≡ true) asked (λ k d h. one_held (get_or asked k d) (there k d h) (times k d h) (names k d h))
