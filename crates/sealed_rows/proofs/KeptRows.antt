-- Rows of partitions among those that were read.
use Rattle.std.proofs.Common.{◌≡◌, ℕ, ℤ, Bool, List, sym, subst}
use Rattle.std.specs.Prelude.{filter}
use Rattle.std.specs.List.{AllByRecursion}
use Rattle.std.proofs.lemmas.List.Kept.{IsStrictlySortedBy-filter}
use Rattle.arch_types.specs.declared.row.Row.{Row}
use Rattle.arch_types.specs.Order.{key_cmp}
use Rattle.partitions.specs.declared.partition.Partition.{Partition}
use Rattle.partitions.specs.Rows.{is_of_partition, is_of_parts}
use Rattle.replay_merge.specs.RowSource.{AreInKeyOrder, AreRowsOf, IsRowBetween, IsRowOf}
use Rattle.replay_merge.proofs.Sources.{each_tested}
use Rattle.joined_rows.specs.Rising.{HaveRisingKeys}
use Rattle.joined_rows.proofs.Both.{keys_in_order}
use Rattle.sealed_rows.specs.Wanted.{IsRowWanted}
use Rattle.sealed_rows.specs.declared.wanted.Times.TheVariants.{Between}
use Rattle.sealed_rows.specs.declared.wanted.Wanted.{Wanted}

rises : (test : Row → Bool) (rows : List Row) → HaveRisingKeys rows → HaveRisingKeys (filter test rows)
rises test rows rising = IsStrictlySortedBy-filter (λ (a b : Row). key_cmp a.key b.key) test rows rising

pub given_kept : (P : Row → Type 0) (test : Row → Bool) (rows kept : List Row) → kept ≡ filter test rows → AllByRecursion P rows → AllByRecursion P kept
given_kept P test rows kept is all = subst (AllByRecursion P) (sym is) (each_tested P P test (λ row may passes. may) rows all)

pub kept_of_partition : (wanted : Wanted) (partition : Partition) (rows kept : List Row) → kept ≡ filter (is_of_partition partition) rows → AllByRecursion (IsRowWanted wanted) rows → HaveRisingKeys rows →
    AreRowsOf wanted.table partition kept
kept_of_partition wanted partition rows kept is all rising =
    let test = is_of_partition partition in
    subst (AreRowsOf wanted.table partition) (sym is) (record {
      each = each_tested (IsRowWanted wanted) (IsRowOf wanted.table partition) test (λ row of passes. record { keyed = of.keyed; in_table = of.in_table; in_partition = passes }) rows all;
      rising = rises test rows rising;
    })

module _ (table front : ℕ) (parts : List Partition) (from to : ℤ) (rows kept : List Row) (is : kept ≡ filter (is_of_parts parts) rows) where
  abbrev those : Wanted
  those = record { table = table; times = Between from to; front = front }

  pub kept_of_parts : AllByRecursion (IsRowWanted those) rows → AllByRecursion (IsRowBetween table parts from to) kept
  kept_of_parts all =
      subst (AllByRecursion (IsRowBetween table parts from to)) (sym is) (each_tested (IsRowWanted those) (IsRowBetween table parts from to) (is_of_parts parts)
      (λ row of passes. record { keyed = of.keyed; in_table = of.in_table; in_parts = passes; in_range = of.in_times }) rows all)

  pub kept_in_order : HaveRisingKeys rows → AreInKeyOrder kept
  kept_in_order rising = subst AreInKeyOrder (sym is) (keys_in_order (filter (is_of_parts parts) rows) (rises (is_of_parts parts) rows rising))
