-- The rows that a source may give.
use Rattle.std.proofs.Common.{◌≡◌, ℕ, ◌≤◌, ℤ, List, [], ◌∷◌, ◌++◌, Bool, Option, Result, Ok, Err, IfErr, sym, ◌∙◌, subst, arith}
use Rattle.std.specs.Prelude.{filter, IsErrAnd, IsNone, IsPermutation}
use Rattle.std.specs.List.{AllByRecursion}
use Rattle.std.proofs.lemmas.List.Elements.{recursion_from_All, All-from_recursion}
use Rattle.std.proofs.lemmas.List.Sorted.{All-permutation}
use Rattle.arch_disk.specs.Disk.{raised}
use Rattle.arch_types.specs.declared.row.Row.{Row}
use Rattle.arch_types.specs.declared.row_fault.RowFault.{RowFault}
use Rattle.arch_types.specs.declared.row_fault.RowFault.TheVariants.{DiskFault, Damaged, OutOfMemory}
use Rattle.arch_types.specs.Order.{is_before, order_by}
use Rattle.arch_types.specs.History.{is_in_table}
use Rattle.arch_types.specs.Table.{is_in_time_range, range_of, table_of}
use Rattle.arch_types.proofs.InOrder.{order_same}
use Rattle.partitions.specs.declared.partition.Partition.{Partition}
use Rattle.partitions.specs.Rows.{is_of_partition, is_of_parts}
use Rattle.replay_merge.specs.RowSource.{IsRowFault, RowSourceState, UsedRowSource, range_of_parts, rows_of_partition}
use Rattle.replay_merge.proofs.Reading.{all_both}
use Rattle.replay_merge.proofs.Sources.{each_tested}

-- ---- a source that is used

pub used_twice : {first second third : RowSourceState} → UsedRowSource first second → UsedRowSource second third → UsedRowSource first third
used_twice one two = record { told = two.told ∙ one.told; no_others = λ row may. one.no_others row (two.no_others row may); no_other_fault = λ may. one.no_other_fault (two.no_other_fault may); later = omega (arith, one.later, two.later) }

-- a fault behind calls that met none is one of all of them
pub fault_before : {first second : RowSourceState} → UsedRowSource first second → second.faults ≡ first.faults → (third : RowSourceState) (fault : RowFault) → IsRowFault second third fault → IsRowFault first third fault
fault_before {first} {second} used calm third DiskFault is = (used.no_other_fault is.0, subst (λ (n : ℕ). raised n ≤ third.faults) calm is.1)
fault_before {first} {second} used calm third (Damaged file at) is = (used.no_other_fault is.0, subst (λ (o : Option (ℕ → List Row)). IsNone o) used.told is.1, is.2 ∙ calm)
fault_before {first} {second} used calm third OutOfMemory is = is ∙ calm

-- the fault that a `?` hands on
pub fault_passed : {X : Type 0} (r : Result X RowFault) (fault : RowFault) (old new : RowSourceState) → IsErrAnd r (λ e. e ≡ fault) → IsRowFault old new fault → IfErr r (IsRowFault old new)
fault_passed (Ok x) fault old new is why = tt
fault_passed (Err e) fault old new is why = subst (IsRowFault old new) (sym is) why

pub each_follows : (P Q : Row → Type 0) → ((row : Row) → P row → Q row) → (rows : List Row) → AllByRecursion P rows → AllByRecursion Q rows
each_follows P Q follows [] all = tt
each_follows P Q follows (row ∷ rows) all = (follows row all.0, each_follows P Q follows rows all.1)

-- what a used source may give, it might have given before
pub given_before : {old new : RowSourceState} → UsedRowSource old new → (rows : List Row) → AllByRecursion new.may_give rows → AllByRecursion old.may_give rows
given_before {old} {new} used rows all = each_follows new.may_give old.may_give used.no_others rows all

-- ---- rows of others, each of which may be given

module _ (P : Row → Type 0) where
  pub tested_behind : (test : Row → Bool) (rows given all : List Row) → AllByRecursion P rows → AllByRecursion P given → all ≡ rows ++ filter test given → AllByRecursion P all
  tested_behind test rows given all so_far each more =
      subst (AllByRecursion P) (sym more) (all_both P rows (filter test given) so_far (each_tested P P test (λ row may is. may) given each))

  pub each_moved : (gathered rows : List Row) → IsPermutation gathered rows → AllByRecursion P gathered → AllByRecursion P rows
  each_moved gathered rows same each = recursion_from_All P rows (All-permutation P gathered rows same (All-from_recursion P gathered each))

  pub table_given : (table : ℕ) (history : List Row) → AllByRecursion P history → AllByRecursion P (table_of table history)
  table_given table history all =
      let those = filter (is_in_table table) history in
      each_moved those (order_by is_before those) (order_same is_before those) (each_tested P P (is_in_table table) (λ row may is. may) history all)

  pub partition_given : (table : ℕ) (partition : Partition) (history : List Row) → AllByRecursion P history → AllByRecursion P (rows_of_partition table partition history)
  partition_given table partition history all =
      each_tested P P (is_of_partition partition) (λ row may is. may) (table_of table history) (table_given table history all)

  pub range_given : (table : ℕ) (parts : List Partition) (from to : ℤ) (history : List Row) → AllByRecursion P history → AllByRecursion P (range_of_parts table parts from to history)
  range_given table parts from to history all =
      let ranged = each_tested P P (is_in_time_range from to) (λ row may is. may) (table_of table history) (table_given table history all) in
      each_tested P P (is_of_parts parts) (λ row may is. may) (range_of table from to history) ranged
