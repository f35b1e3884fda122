-- Rows that are gathered of one partition after the other, and put in order.
use Rattle.std.proofs.Common.{◌≡◌, ◌⊎◌, inl, inr, ℕ, suc, ℤ, ◌+◌, ◌<◌, ◌≤◌, List, [], ◌∷◌, ◌++◌, length, get_or, take, Option, Some, None, true, sym, ap, ◌∙◌, subst, arith}
use Rattle.std.specs.Prelude.{filter, IfSome, IsPermutation}
use Rattle.std.specs.List.{AllByRecursion, flat_map}
use Rattle.std.specs.List.Sorted.{IsSortedBy}
use Rattle.std.proofs.Math.Seq.{take-suc}
use Rattle.std.proofs.lemmas.Grind.{flat_map-append}
use Rattle.std.proofs.lemmas.List.{take_all, nil_from_length, append-nil}
use Rattle.std.proofs.lemmas.List.Folds.{list_any_at}
use Rattle.std.proofs.lemmas.List.Kept.{IsSortedBy-filter}
use Rattle.std.proofs.lemmas.List.Sorted.{length_permutation}
use Rattle.arch_types.specs.declared.row.Row.{Row}
use Rattle.arch_types.specs.Order.{is_before}
use Rattle.arch_types.specs.History.{IsHistory, is_in_table}
use Rattle.arch_types.specs.Table.{is_in_time_range, range_of, table_of}
use Rattle.arch_types.proofs.Ranks.{rows_rank}
use Rattle.arch_types.proofs.InOrder.{order_sorted}
use Rattle.partitions.specs.declared.partition.Partition.{Partition}
use Rattle.partitions.specs.Partitions.{AreRising}
use Rattle.partitions.specs.Rows.{is_of_partition, is_of_parts}
use Rattle.partitions.proofs.Filters.{filter_swap}
use Rattle.replay_merge.specs.RowSource.{IsRowOf, IsRowBetween, AreInKeyOrder, IsRowSourceHistory, AreRowSourceHistories, range_of_parts, rows_of_partition}
use Rattle.replay_merge.proofs.Reading.{all_both}
use Rattle.replay_merge.proofs.Sorting.{ascending, same_sorted}
use Rattle.replay_merge.proofs.Sources.{each_tested, in_table_keyed, IsKeyedIn, no_rows_in}
use Rattle.replay_merge.proofs.Tied.{is_tied, AtMostOne, one_in_table, one_after, by_parts, same_tied, none_in_parts}

-- where a row was read, what the source tells is a history
abbrev pub IsToldHistory : Option (ℕ → List Row) → List Row → Type 0
IsToldHistory told rows = (rows ≡ []) ⊎ IfSome told AreRowSourceHistories

pub range_sorted : (table : ℕ) (from to : ℤ) (history : List Row) → IsSortedBy is_before (range_of table from to history)
range_sorted table from to history = IsSortedBy-filter is_before rows_rank (is_in_time_range from to) (table_of table history) (order_sorted (filter (is_in_table table) history))

one_in_range : (table : ℕ) (from to : ℤ) (history : List Row) (z : Row) → IsHistory history → AtMostOne (filter (is_tied z) (range_of table from to history))
one_in_range table from to history z is = one_after (is_in_time_range from to) z (table_of table history) (one_in_table table z history is)

-- ---- one partition more

flat_one : {X Y : Type 0} (f : X → List Y) (xs : List X) (i : ℕ) (x : X) → i < length xs → x ≡ get_or xs i x → flat_map f (take i xs) ++ f x ≡ flat_map f (take (i + 1) xs)
flat_one {X} {Y} f xs i x within is =
    let next : i + 1 ≡ suc i = omega arith in
    let last : flat_map f (x ∷ []) ≡ f x = append-nil (f x) in
    ap (λ (l : List Y). flat_map f (take i xs) ++ l) (sym last) ∙ sym (flat_map-append f (take i xs) (x ∷ []))
    ∙ ap (λ (y : X). flat_map f (take i xs ++ y ∷ [])) is ∙ ap (flat_map f) (sym (take-suc xs i x within)) ∙ ap (λ (n : ℕ). flat_map f (take n xs)) (sym next)

module _ (table front : ℕ) (from to : ℤ) (parts : List Partition) (i : ℕ) (partition : Partition) (within : i < length parts) (is : partition ≡ get_or parts i partition) where
  pub one_part_more : (told : Option (ℕ → List Row)) (rows given all : List Row) →
      IfSome told (λ history. rows ≡ by_parts (take i parts) (range_of table from to (history front))) → IfSome told (λ history. given ≡ rows_of_partition table partition (history front)) →
      all ≡ rows ++ filter (is_in_time_range from to) given → IfSome told (λ history. all ≡ by_parts (take (i + 1) parts) (range_of table from to (history front)))
  one_part_more None rows given all so_far got more = tt
  one_part_more (Some history) rows given all so_far got more =
      let range = range_of table from to (history front) in
      let its : filter (is_in_time_range from to) given ≡ filter (is_of_partition partition) range =
      ap (filter (is_in_time_range from to)) got ∙ filter_swap (is_in_time_range from to) (is_of_partition partition) (table_of table (history front)) in
      more ∙ ap (λ (w : List Row). w ++ filter (is_in_time_range from to) given) so_far ∙ ap (λ (w : List Row). by_parts (take i parts) range ++ w) its
      ∙ flat_one (λ p. filter (is_of_partition p) range) parts i partition within is

  in_these : (row : Row) → is_of_partition partition row ≡ true → is_of_parts parts row ≡ true
  in_these row of = list_any_at (λ p. is_of_partition p row) parts i partition within (subst (λ (p : Partition). is_of_partition p row ≡ true) is of)

  pub each_part_more : (rows given all : List Row) → AllByRecursion (IsRowBetween table parts from to) rows → AllByRecursion (IsRowOf table partition) given →
      all ≡ rows ++ filter (is_in_time_range from to) given → AllByRecursion (IsRowBetween table parts from to) all
  each_part_more rows given all so_far each more =
      let kept = each_tested (IsRowOf table partition) (IsRowBetween table parts from to) (is_in_time_range from to)
      (λ row of range. record { keyed = of.keyed; in_table = of.in_table; in_parts = in_these row of.in_partition; in_range = range }) given each in
      subst (λ (l : List Row). AllByRecursion (IsRowBetween table parts from to) l) (sym more) (all_both (IsRowBetween table parts from to) rows (filter (is_in_time_range from to) given) so_far kept)

-- ---- all of them

pub all_gathered : (told : Option (ℕ → List Row)) (table front : ℕ) (from to : ℤ) (parts : List Partition) (i : ℕ) (rows : List Row) → length parts ≤ i →
    IfSome told (λ history. rows ≡ by_parts (take i parts) (range_of table from to (history front))) → IfSome told (λ history. rows ≡ by_parts parts (range_of table from to (history front)))
all_gathered told table front from to parts i rows le got =
    subst (λ (ps : List Partition). IfSome told (λ history. rows ≡ by_parts ps (range_of table from to (history front)))) (take_all i parts le) got

-- gathered of partitions and put in order, the rows are those of the table in these partitions
pub between_read : (told : Option (ℕ → List Row)) (table front : ℕ) (from to : ℤ) (parts : List Partition) (gathered rows : List Row) → AreRising parts →
    IfSome told (λ history. gathered ≡ by_parts parts (range_of table from to (history front))) → IsToldHistory told gathered → IsPermutation gathered rows → IsSortedBy is_before rows →
    ((z : Row) → filter (is_tied z) rows ≡ filter (is_tied z) gathered) → IfSome told (λ history. rows ≡ range_of_parts table parts from to (history front))
between_read None table front from to parts gathered rows rising got sound same in_order stable = tt
between_read (Some history) table front from to parts gathered rows rising got (inr sound) same in_order stable =
    let range = range_of table from to (history front) in
    same_sorted rows_rank rows (filter (is_of_parts parts) range) (ascending rows_rank rows in_order)
    (ascending rows_rank (filter (is_of_parts parts) range) (IsSortedBy-filter is_before rows_rank (is_of_parts parts) range (range_sorted table from to (history front))))
    (λ z. stable z ∙ ap (filter (is_tied z)) got ∙ same_tied parts range z rising (one_in_range table from to (history front) z ((sound front).once)))
between_read (Some history) table front from to parts gathered rows rising got (inl none) same in_order stable =
    let range = range_of table from to (history front) in
    let no_rows : rows ≡ [] = nil_from_length rows (length_permutation gathered rows same ∙ ap length none) in
    no_rows ∙ sym (none_in_parts parts range (sym got ∙ none))

-- ---- what a source whose rows are a history gives

-- a keyed row of a table in a range
record IsKeyedBetween (table : ℕ) (from to : ℤ) (row : Row) : Type 0 where
  both : IsKeyedIn table row
  in_range : is_in_time_range from to row ≡ true

-- those of a history, in some partitions and a range, are such rows in the order of their keys
pub rows_between_are : (table : ℕ) (parts : List Partition) (from to : ℤ) (history : List Row) → IsRowSourceHistory history →
    AllByRecursion (IsRowBetween table parts from to) (range_of_parts table parts from to history)
rows_between_are table parts from to history is =
    let range = range_of table from to history in
    let keyed = in_table_keyed table history is.each in
    let ranged = each_tested (IsKeyedIn table) (IsKeyedBetween table from to) (is_in_time_range from to) (λ row both e. record { both = both; in_range = e }) (table_of table history) keyed in
    each_tested (IsKeyedBetween table from to) (IsRowBetween table parts from to) (is_of_parts parts) (λ row of e. record { keyed = of.both.keyed; in_table = of.both.in_table; in_parts = e; in_range = of.in_range }) range ranged

pub between_in_order : (table : ℕ) (parts : List Partition) (from to : ℤ) (history : List Row) → AreInKeyOrder (range_of_parts table parts from to history)
between_in_order table parts from to history =
    IsSortedBy-filter is_before rows_rank (is_of_parts parts) (range_of table from to history) (range_sorted table from to history)

-- where all rows are in tables of lower numbers, there is none
pub no_rows_between : (table n : ℕ) (parts : List Partition) (from to : ℤ) (history : List Row) → AllByRecursion (λ row. row.table < n) history → n ≤ table → range_of_parts table parts from to history ≡ []
no_rows_between table n parts from to history all most =
    ap (λ (rows : List Row). filter (is_of_parts parts) (filter (is_in_time_range from to) rows)) (no_rows_in table n history all most)
