-- The rows that two sources give of one history.
use Rattle.std.proofs.Common.{◌≡◌, ◌⊎◌, inl, inr, ⊎_elim, ℕ, ℤ, ◌+◌, List, ◌++◌, Option, Some, None, Bool, true, get_or, refl, sym, ap, ◌∙◌, subst, arith}
use Rattle.std.specs.Prelude.{◌&&◌, IfSome, IsNone}
use Rattle.std.specs.List.{AllByRecursion, Any, Contains}
use Rattle.std.specs.Ordering.{is_lt, ordering_reverse}
use Rattle.std.proofs.lemmas.List.Elements.{Contains-append_cases, Contains-append_left, Contains-append_right}
use Rattle.std.proofs.lemmas.Map.Keys.{Less-from_sorted}
use Rattle.arch_types.specs.declared.row.Row.{Row}
use Rattle.arch_types.specs.declared.row_fault.RowFault.{RowFault}
use Rattle.arch_types.specs.declared.row_fault.RowFault.TheVariants.{DiskFault, Damaged, OutOfMemory}
use Rattle.arch_types.specs.History.{IsHistory, is_in_table}
use Rattle.arch_types.specs.Order.{key_cmp}
use Rattle.arch_types.specs.Table.{is_in_time_range, range_of, table_of}
use Rattle.arch_types.proofs.Ranks.{key_cmp_total}
use Rattle.partitions.specs.declared.partition.Partition.{Partition}
use Rattle.partitions.specs.Rows.{is_of_partition, is_of_parts}
use Rattle.partitions.proofs.Filters.{filter_both}
use Rattle.replay_merge.specs.RowSource.{AreInKeyOrder, AreRowSourceHistories, IsRowFault, RowSourceState, UsedRowSource, range_of_parts, rows_of_partition}
use Rattle.replay_merge.proofs.Giving.{each_follows}
use Rattle.joined_rows.specs.Joined.{AreHistoriesTogether, joined_state, told_by_both}
use Rattle.joined_rows.specs.Rising.{HaveRisingKeys}
use Rattle.joined_rows.proofs.SameRows.{each_by, each_at, same_firsts}
use Rattle.joined_rows.proofs.Selected.{selected, selected_has, selected_rises}

-- what `rising_by_key` makes of rows
pub record AreFirsts (gathered rows : List Row) : Type 0 where
  pub rising : HaveRisingKeys rows
  pub no_others : (row : Row) → Contains rows row → Contains gathered row
  pub each_key : (row : Row) → Contains gathered row → Any (λ (kept : Row). kept.key ≡ row.key) rows

-- ---- told

module _ (table : ℕ) (test : Row → Bool) where
  both_selected : (a b given more rows : List Row) → IsHistory (a ++ b) → given ≡ selected table test a → more ≡ selected table test b → AreFirsts (given ++ more) rows → rows ≡ selected table test (a ++ b)
  both_selected a b given more rows is got also firsts =
      same_firsts rows (given ++ more) (selected table test (a ++ b)) firsts.rising (selected_rises table test (a ++ b) is) firsts.no_others firsts.each_key (λ row has. there row (Contains-append_cases given more row has)) back
    where
      there : (row : Row) → Contains given row ⊎ Contains more row → Contains (selected table test (a ++ b)) row
      there row (inl first) =
          let of = (selected_has table test a row).0 (subst (λ (l : List Row). Contains l row) got first) in
          (selected_has table test (a ++ b) row).1 (Contains-append_left a b row of.0, of.1, of.2)
      there row (inr second) =
          let of = (selected_has table test b row).0 (subst (λ (l : List Row). Contains l row) also second) in
          (selected_has table test (a ++ b) row).1 (Contains-append_right a b row of.0, of.1, of.2)

      from : (row : Row) → (is_in_table table row ≡ true) → (test row ≡ true) → Contains a row ⊎ Contains b row → Contains (given ++ more) row
      from row in_table passes (inl first) = Contains-append_left given more row (subst (λ (l : List Row). Contains l row) (sym got) ((selected_has table test a row).1 (first, in_table, passes)))
      from row in_table passes (inr second) = Contains-append_right given more row (subst (λ (l : List Row). Contains l row) (sym also) ((selected_has table test b row).1 (second, in_table, passes)))

      back : (row : Row) → Contains (selected table test (a ++ b)) row → Contains (given ++ more) row
      back row has = let of = (selected_has table test (a ++ b) row).0 has in from row of.1 of.2 (Contains-append_cases a b row of.0)

  module _ (choose : List Row → List Row) (is : (rows : List Row) → choose rows ≡ selected table test rows) where
    both_told : (first second : Option (ℕ → List Row)) (front : ℕ) (given more rows : List Row) → AreHistoriesTogether first second → IfSome first (λ history. given ≡ choose (history front)) →
        IfSome second (λ history. more ≡ choose (history front)) → AreFirsts (given ++ more) rows → IfSome (told_by_both first second) (λ history. rows ≡ choose (history front))
    both_told None second front given more rows together got also firsts = tt
    both_told (Some a) None front given more rows together got also firsts = tt
    both_told (Some a) (Some b) front given more rows together got also firsts =
        both_selected (a front) (b front) given more rows (together front front).once (got ∙ is (a front)) (also ∙ is (b front)) firsts ∙ sym (is (a front ++ b front))

pub partition_told : (table : ℕ) (partition : Partition) (first second : Option (ℕ → List Row)) (front : ℕ) (given more rows : List Row) → AreHistoriesTogether first second →
    IfSome first (λ history. given ≡ rows_of_partition table partition (history front)) → IfSome second (λ history. more ≡ rows_of_partition table partition (history front)) → AreFirsts (given ++ more) rows →
    IfSome (told_by_both first second) (λ history. rows ≡ rows_of_partition table partition (history front))
partition_told table partition = both_told table (is_of_partition partition) (rows_of_partition table partition) (λ rows. refl)

pub range_told : (table : ℕ) (from to : ℤ) (first second : Option (ℕ → List Row)) (front : ℕ) (given more rows : List Row) → AreHistoriesTogether first second →
    IfSome first (λ history. given ≡ range_of table from to (history front)) → IfSome second (λ history. more ≡ range_of table from to (history front)) → AreFirsts (given ++ more) rows →
    IfSome (told_by_both first second) (λ history. rows ≡ range_of table from to (history front))
range_told table from to = both_told table (is_in_time_range from to) (range_of table from to) (λ rows. refl)

pub parts_told : (table : ℕ) (parts : List Partition) (from to : ℤ) (first second : Option (ℕ → List Row)) (front : ℕ) (given more rows : List Row) → AreHistoriesTogether first second →
    IfSome first (λ history. given ≡ range_of_parts table parts from to (history front)) → IfSome second (λ history. more ≡ range_of_parts table parts from to (history front)) → AreFirsts (given ++ more) rows →
    IfSome (told_by_both first second) (λ history. rows ≡ range_of_parts table parts from to (history front))
parts_told table parts from to = both_told table (λ row. is_in_time_range from to row && is_of_parts parts row) (range_of_parts table parts from to) (λ rows. sym (filter_both (is_in_time_range from to) (is_of_parts parts) (table_of table rows)))

-- ---- given

pub each_of_both : (P : Row → Type 0) (given more rows : List Row) → AllByRecursion P given → AllByRecursion P more → AreFirsts (given ++ more) rows → AllByRecursion P rows
each_of_both P given more rows first second firsts = each_by P rows (λ row has. by row (Contains-append_cases given more row (firsts.no_others row has)))
  where
    by : (row : Row) → Contains given row ⊎ Contains more row → P row
    by row (inl has) = each_at P given row first has
    by row (inr has) = each_at P more row second has

pub given_of_both : (P Q : Row → Type 0) (given more rows : List Row) → AllByRecursion P given → AllByRecursion Q more → AreFirsts (given ++ more) rows → AllByRecursion (λ row. P row ⊎ Q row) rows
given_of_both P Q given more rows first second firsts =
    each_of_both (λ row. P row ⊎ Q row) given more rows (each_follows P (λ row. P row ⊎ Q row) (λ row may. inl may) given first) (each_follows Q (λ row. P row ⊎ Q row) (λ row may. inr may) more second) firsts

-- rising keys are in order
pub keys_in_order : (rows : List Row) → HaveRisingKeys rows → AreInKeyOrder rows
keys_in_order rows rising k d low within =
    let less = Less-from_sorted (λ (a b : Row). key_cmp a.key b.key) rows k (k + 1) d rising (omega arith) within in
    ap is_lt (key_cmp_total.antisymm (get_or rows (k + 1) d).key (get_or rows k d).key ∙ ap ordering_reverse less)

-- ---- the state of both

pub told_histories : (first second : Option (ℕ → List Row)) → AreHistoriesTogether first second → IfSome (told_by_both first second) AreRowSourceHistories
told_histories None second together = tt
told_histories (Some a) None together = tt
told_histories (Some a) (Some b) together = λ front. together front front

pub used_same : (state : RowSourceState) → UsedRowSource state state
used_same state = record { told = refl; no_others = λ row may. may; no_other_fault = λ may. may; later = omega arith }

module _ (a b c d : RowSourceState) where
  pub used_both : UsedRowSource a c → UsedRowSource b d → UsedRowSource (joined_state a b) (joined_state c d)
  used_both first second = record {
    told = ap (λ (o : Option (ℕ → List Row)). told_by_both o d.history) first.told ∙ ap (λ (o : Option (ℕ → List Row)). told_by_both a.history o) second.told;
    no_others = λ row may. others row may;
    no_other_fault = λ may. ⊎_elim (λ fails. inl (first.no_other_fault fails)) (λ fails. inr (second.no_other_fault fails)) may;
    later = omega (arith, first.later, second.later);
  }
    where
      others : (row : Row) → c.may_give row ⊎ d.may_give row → a.may_give row ⊎ b.may_give row
      others row (inl may) = inl (first.no_others row may)
      others row (inr may) = inr (second.no_others row may)

  pub first_fault : (fault : RowFault) → d.faults ≡ b.faults → IsRowFault a c fault → IsRowFault (joined_state a b) (joined_state c d) fault
  first_fault DiskFault same is = (inl is.0, let rose = is.1 in omega (arith, same, rose))
  first_fault (Damaged file at) same is = (inl is.0, by a.history b.history is.1, let calm = is.2 in omega (arith, same, calm))
    where
      by : (first second : Option (ℕ → List Row)) → IsNone first → IsNone (told_by_both first second)
      by None second none = none
      by (Some x) second none = absurd (cc none)
  first_fault OutOfMemory same is = omega (arith, same, is)

  pub second_fault : (fault : RowFault) → c.faults ≡ a.faults → IsRowFault b d fault → IsRowFault (joined_state a b) (joined_state c d) fault
  second_fault DiskFault same is = (inr is.0, let rose = is.1 in omega (arith, same, rose))
  second_fault (Damaged file at) same is = (inr is.0, by a.history b.history is.1, let calm = is.2 in omega (arith, same, calm))
    where
      by : (first second : Option (ℕ → List Row)) → IsNone second → IsNone (told_by_both first second)
      by None second none = refl
      by (Some x) None none = refl
      by (Some x) (Some y) none = absurd (cc none)
  second_fault OutOfMemory same is = omega (arith, same, is)
