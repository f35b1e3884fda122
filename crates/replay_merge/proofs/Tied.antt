-- Of the rows of a table in a history at most one has a key.
use Rattle.std.proofs.Common.{◌≡◌, ◌⊎◌, inl, inr, ℕ, suc, zero, List, [], ◌∷◌, ◌++◌, take, Bool, true, false, not, cond, refl, sym, ap, ◌∙◌, subst, arith}
use Rattle.std.specs.Prelude.{filter, ◌&&◌, ◌==◌}
use Rattle.std.proofs.lemmas.Bool.Decides.{nat_tests}
use Rattle.std.proofs.lemmas.List.Elements.{filter-append}
use Rattle.std.specs.List.{AllByRecursion, flat_map}
use Rattle.std.specs.List.Sorted.{ties}
use Rattle.std.specs.Ordering.{is_lt, ordering_reverse}
use Rattle.std.specs.declared.cmp.Ordering.{Ordering}
use Rattle.std.specs.declared.cmp.Ordering.TheVariants.{Less, Equal, Greater}
use Rattle.std.proofs.lemmas.Cmp.{tied_back, tied_itself}
use Rattle.std.proofs.lemmas.Map.Keys.{sorted_head, sorted_tail}
use Rattle.arch_types.specs.declared.row.Row.{Row}
use Rattle.arch_types.specs.declared.key.Key.{Key}
use Rattle.arch_types.specs.Order.{key_cmp, is_before, order_by}
use Rattle.arch_types.specs.History.{is_in_table, is_duplicate_of, IsHistory}
use Rattle.arch_types.specs.Table.{table_of}
use Rattle.arch_types.proofs.Ranks.{key_cmp_total, rows_rank}
use Rattle.arch_types.proofs.Ordered.{filter-order}
use Rattle.partitions.specs.declared.partition.Partition.{Partition}
use Rattle.partitions.specs.Partition.{partition_cmp}
use Rattle.partitions.specs.Partitions.{AreRising}
use Rattle.partitions.specs.Rows.{is_of_partition, is_of_parts}
use Rattle.partitions.proofs.Filters.{none_pass, filter_swap}
use Rattle.partitions.proofs.Order.{partition_cmp_total}
use Rattle.partitions.proofs.Parted.{its_partition}
use Rattle.replay_merge.proofs.Splits.{none_pass_either, append_nil_left, append_nil_right}

-- no item or one
abbrev pub AtMostOne : List Row → Type 0
AtMostOne rows = (rows ≡ []) ⊎ ((row : Row) × (rows ≡ row ∷ []))

-- whether a row ties with another
abbrev pub is_tied : Row → Row → Bool
is_tied = ties is_before

equal_cases : (a b : Key) (r s : Ordering) → key_cmp a b ≡ r → key_cmp b a ≡ s → (not (is_lt r) && not (is_lt s)) ≡ true → r ≡ Equal
equal_cases a b Less s er es tied = absurd cc
equal_cases a b Equal s er es tied = refl
equal_cases a b Greater s er es tied =
    let back : key_cmp b a ≡ Less = key_cmp_total.antisymm b a ∙ ap ordering_reverse er in
    let less : s ≡ Less = sym es ∙ back in
    let no : (not (is_lt Greater) && not (is_lt Less)) ≡ true = subst (λ (o : Ordering). (not (is_lt Greater) && not (is_lt o)) ≡ true) less tied in
    absurd cc

-- rows that tie have one key
pub one_key : (x y : Row) → is_tied x y ≡ true → key_cmp x.key y.key ≡ Equal
one_key x y tied = equal_cases x.key y.key (key_cmp x.key y.key) (key_cmp y.key x.key) refl refl tied

same_number : (t a b : ℕ) → (t == a) ≡ true → (t == b) ≡ true → (b == a) ≡ true
same_number t a b ea eb = grind (arith, nat_tests)

-- rows of one table that tie with one row are duplicates of each other
pub tied_are_duplicates : (table : ℕ) (z row later : Row) → is_in_table table row ≡ true → is_in_table table later ≡ true → is_tied z row ≡ true → is_tied z later ≡ true →
    is_duplicate_of later row ≡ true
tied_are_duplicates table z row later in_row in_later tied_row tied_later =
    let one = one_key z row tied_row in
    let other = tied_back key_cmp_total z.key later.key (one_key z later tied_later) in
    let same : key_cmp later.key row.key ≡ Equal = key_cmp_total.congr later.key z.key row.key other ∙ one in
    let number = same_number table row.table later.table in_row in_later in
    rw (number, same) refl

module _ (table : ℕ) (z : Row) where
  -- the rows of the table that tie with a row
  abbrev tied_in : List Row → List Row
  tied_in rows = filter (is_tied z) (filter (is_in_table table) rows)

  skipped : (row : Row) (rows : List Row) (a b : Bool) → is_in_table table row ≡ a → is_tied z row ≡ b → (a && b) ≡ false → tied_in (row ∷ rows) ≡ tied_in rows
  skipped row rows true true ea eb not_both = absurd cc
  skipped row rows true false ea eb not_both = rw (ea, eb) refl
  skipped row rows false b ea eb not_both = rw ea refl

  taken : (row : Row) (rows : List Row) → is_in_table table row ≡ true → is_tied z row ≡ true → tied_in (row ∷ rows) ≡ row ∷ tied_in rows
  taken row rows ea eb = rw (ea, eb) refl

  none_other : (row : Row) → is_in_table table row ≡ true → is_tied z row ≡ true → (rows : List Row) → AllByRecursion (λ later. is_duplicate_of later row ≡ false) rows → tied_in rows ≡ []
  none_other row in_row tied [] all = refl
  none_other row in_row tied (later ∷ rows) all = by (is_in_table table later) (is_tied z later) refl refl (none_other row in_row tied rows all.1)
    where
      by : (a b : Bool) → is_in_table table later ≡ a → is_tied z later ≡ b → tied_in rows ≡ [] → tied_in (later ∷ rows) ≡ []
      by true true ea eb none = let same = tied_are_duplicates table z row later in_row ea tied eb in let apart = all.0 in absurd cc
      by true false ea eb none = skipped later rows true false ea eb refl ∙ none
      by false b ea eb none = skipped later rows false b ea eb refl ∙ none

  pub one_tied : (history : List Row) → IsHistory history → AtMostOne (tied_in history)
  one_tied [] is = inl refl
  one_tied (row ∷ rows) is = by (is_in_table table row) (is_tied z row) refl refl (one_tied rows is.1)
    where
      by : (a b : Bool) → is_in_table table row ≡ a → is_tied z row ≡ b → AtMostOne (tied_in rows) → AtMostOne (tied_in (row ∷ rows))
      by true true ea eb one = inr (row, taken row rows ea eb ∙ ap (λ (w : List Row). row ∷ w) (none_other row ea eb rows is.0))
      by true false ea eb one = subst AtMostOne (sym (skipped row rows true false ea eb refl)) one
      by false b ea eb one = subst AtMostOne (sym (skipped row rows false b ea eb refl)) one

pub ordered_one : (rows : List Row) → AtMostOne rows → order_by is_before rows ≡ rows
ordered_one rows (inl none) = rw none refl
ordered_one rows (inr one) = rw one.1 refl

-- of the rows of a table at most one ties with a row
pub one_in_table : (table : ℕ) (z : Row) (history : List Row) → IsHistory history → AtMostOne (filter (is_tied z) (table_of table history))
one_in_table table z history is =
    let one = one_tied table z history is in
    subst AtMostOne (sym (filter-order rows_rank (is_tied z) (filter (is_in_table table) history) ∙ ordered_one _ one)) one

filtered_one : (q : Row → Bool) (row : Row) (b : Bool) → AtMostOne (cond b (row ∷ []) [])
filtered_one q row true = inr (row, refl)
filtered_one q row false = inl refl

-- nor of those that pass a test
pub one_passes : (q : Row → Bool) (rows : List Row) → AtMostOne rows → AtMostOne (filter q rows)
one_passes q rows (inl none) = rw none (inl refl)
one_passes q rows (inr one) = rw one.1 (filtered_one q one.0 (q one.0))

-- and not once a test was asked before
pub one_after : (q : Row → Bool) (z : Row) (rows : List Row) → AtMostOne (filter (is_tied z) rows) → AtMostOne (filter (is_tied z) (filter q rows))
one_after q z rows one = subst AtMostOne (filter_swap q (is_tied z) rows) (one_passes q (filter (is_tied z) rows) one)

-- the first rows of a history are one
pub first_rows : (n : ℕ) (history : List Row) → IsHistory history → IsHistory (take n history)
first_rows zero history is = tt
first_rows (suc n) [] is = tt
first_rows (suc n) (row ∷ rows) is = (kept n rows is.0, first_rows n rows is.1)
  where
    kept : (n : ℕ) (rows : List Row) → AllByRecursion (λ later. is_duplicate_of later row ≡ false) rows → AllByRecursion (λ later. is_duplicate_of later row ≡ false) (take n rows)
    kept zero rows all = tt
    kept (suc n) [] all = tt
    kept (suc n) (later ∷ rows) all = (all.0, kept n rows all.1)

-- ---- the rows of several partitions

-- the rows of partitions, those of each behind those of the one before
abbrev pub by_parts : List Partition → List Row → List Row
by_parts parts rows = flat_map (λ partition. filter (is_of_partition partition) rows) parts

no_rows : (parts : List Partition) → by_parts parts [] ≡ []
no_rows [] = refl
no_rows (partition ∷ parts) = no_rows parts

-- a row of the first partition stands in none of the others
apart : (partition : Partition) (row : Row) → is_of_partition partition row ≡ true → (parts : List Partition) → AllByRecursion (λ p. partition_cmp partition p ≡ Less) parts → by_parts parts (row ∷ []) ≡ []
apart partition row is [] all = refl
apart partition row is (p ∷ parts) all = by (is_of_partition p row) refl (apart partition row is parts all.1)
  where
    by : (b : Bool) → is_of_partition p row ≡ b → by_parts parts (row ∷ []) ≡ [] → by_parts (p ∷ parts) (row ∷ []) ≡ []
    by true e none =
        let same : partition ≡ p = its_partition partition row is ∙ sym (its_partition p row e) in
        let itself : partition_cmp partition p ≡ Equal = subst (λ (q : Partition). partition_cmp partition q ≡ Equal) same (tied_itself partition_cmp_total partition) in
        let less = all.0 in absurd cc
    by false e none = rw e none

one_row : (parts : List Partition) (row : Row) → AreRising parts → by_parts parts (row ∷ []) ≡ filter (is_of_parts parts) (row ∷ [])
one_row [] row rising = refl
one_row (partition ∷ parts) row rising = by (is_of_partition partition row) refl (one_row parts row (sorted_tail partition_cmp partition parts rising))
  where
    by : (b : Bool) → is_of_partition partition row ≡ b → by_parts parts (row ∷ []) ≡ filter (is_of_parts parts) (row ∷ []) → by_parts (partition ∷ parts) (row ∷ []) ≡ filter (is_of_parts (partition ∷ parts)) (row ∷ [])
    by true e later = rw e (ap (λ (w : List Row). row ∷ w) (apart partition row e parts (sorted_head partition_cmp partition parts rising)))
    by false e later = rw e later

-- at most one row stands in distinct partitions as often as in one of them
pub one_by_parts : (parts : List Partition) (rows : List Row) → AreRising parts → AtMostOne rows → by_parts parts rows ≡ filter (is_of_parts parts) rows
one_by_parts parts rows rising (inl none) = rw none (no_rows parts)
one_by_parts parts rows rising (inr one) = rw one.1 (one_row parts one.0 rising)

-- what passes a test of the rows of partitions
pub filter_by_parts : (q : Row → Bool) (parts : List Partition) (rows : List Row) → filter q (by_parts parts rows) ≡ by_parts parts (filter q rows)
filter_by_parts q [] rows = refl
filter_by_parts q (partition ∷ parts) rows =
    filter-append q (filter (is_of_partition partition) rows) (by_parts parts rows)
    ∙ ap (λ (w : List Row). w ++ filter q (by_parts parts rows)) (filter_swap q (is_of_partition partition) rows)
    ∙ ap (λ (w : List Row). filter (is_of_partition partition) (filter q rows) ++ w) (filter_by_parts q parts rows)

-- where no partition has a row, none stands in one of them
pub none_in_parts : (parts : List Partition) (rows : List Row) → by_parts parts rows ≡ [] → filter (is_of_parts parts) rows ≡ []
none_in_parts [] rows none = none_pass (is_of_parts []) rows (all_fail rows)
  where
    all_fail : (rows : List Row) → AllByRecursion (λ row. is_of_parts [] row ≡ false) rows
    all_fail [] = tt
    all_fail (row ∷ rows) = (refl, all_fail rows)
none_in_parts (partition ∷ parts) rows none =
    none_pass_either (is_of_partition partition) (is_of_parts parts) rows (append_nil_left (filter (is_of_partition partition) rows) (by_parts parts rows) none)
    (none_in_parts parts rows (append_nil_right (filter (is_of_partition partition) rows) (by_parts parts rows) none))

-- rows that tie with a row are the same by partitions and in the order of the table
pub same_tied : (parts : List Partition) (rows : List Row) (z : Row) → AreRising parts → AtMostOne (filter (is_tied z) rows) →
    filter (is_tied z) (by_parts parts rows) ≡ filter (is_tied z) (filter (is_of_parts parts) rows)
same_tied parts rows z rising one =
    filter_by_parts (is_tied z) parts rows ∙ one_by_parts parts (filter (is_tied z) rows) rising one ∙ sym (filter_swap (is_tied z) (is_of_parts parts) rows)
