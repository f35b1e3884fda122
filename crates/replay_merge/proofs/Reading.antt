-- What is read of a source, partition after partition and day after day.
use Rattle.std.proofs.Common.{◌≡◌, ℕ, ◌+◌, ◌<◌, List, [], ◌∷◌, ◌++◌, length, take, drop, Option, Some, None, Bool, true, false, refl, sym, ap, ◌∙◌, subst, arith}
use Rattle.std.specs.Prelude.{filter, IfSome, ◌||◌, ◌&&◌}
use Rattle.std.specs.List.{AllByRecursion}
use Rattle.std.specs.List.Sorted.{IsSortedBy}
use Rattle.std.proofs.lemmas.List.{take-append-drop, drop-drop, length-take, length-drop, get_or-take, get_or-drop}
use Rattle.std.proofs.lemmas.List.Elements.{filter_agree}
use Rattle.std.proofs.lemmas.List.Folds.{list_any-append}
use Rattle.std.proofs.lemmas.List.Kept.{IsSortedBy-filter, IsStrictlySortedBy-filter}
use Rattle.std.proofs.lemmas.Map.Keys.{Less-from_sorted, sorted_from_all_adjacent}
use Rattle.std.proofs.lemmas.Map.Views.{any-filter_same}
use Rattle.arch_types.specs.declared.row.Row.{Row}
use Rattle.arch_types.specs.Order.{is_before}
use Rattle.arch_types.specs.History.{is_in_table}
use Rattle.arch_types.specs.Table.{is_in_time_range, range_of, table_of}
use Rattle.arch_types.proofs.Ranks.{rows_rank}
use Rattle.arch_types.proofs.InOrder.{order_sorted}
use Rattle.partitions.specs.declared.partition.Partition.{Partition}
use Rattle.partitions.specs.Partition.{partition_cmp}
use Rattle.partitions.specs.Partitions.{AreRising}
use Rattle.partitions.specs.Rows.{is_of_partition, is_of_parts}
use Rattle.partitions.proofs.Filters.{filter_both}
use Rattle.partitions.proofs.Order.{partition_cmp_total}
use Rattle.partitions.proofs.Parted.{its_partition, no_partition}
use Rattle.replay_merge.specs.declared.wanted.Wanted.{Wanted}
use Rattle.replay_merge.specs.RowSource.{IsRowBetween, range_of_parts}
use Rattle.replay_merge.specs.Replay.{is_listed_name, has_listed_name}
use Rattle.replay_merge.specs.Fetch.{rows_wanted, wanted_in, IsWanted, EndsDay}
use Rattle.replay_merge.proofs.Splits.{split}
use Rattle.replay_merge.proofs.Sorting.{ascending}
use Rattle.replay_merge.proofs.Days.{days_in_order}

-- ---- items of a list

pub all_both : {X : Type 0} (P : X → Type 0) (xs ys : List X) → AllByRecursion P xs → AllByRecursion P ys → AllByRecursion P (xs ++ ys)
all_both P [] ys first second = second
all_both P (x ∷ xs) ys first second = (first.0, all_both P xs ys first.1 second)

pub all_pass : {X : Type 0} (q : X → Bool) (xs : List X) → AllByRecursion (λ x. q x ≡ true) xs → filter q xs ≡ xs
all_pass q [] all = refl
all_pass q (x ∷ xs) all = rw all.0 (ap (λ (w : List _). x ∷ w) (all_pass q xs all.1))

-- ---- partitions

pub rising_first : (n : ℕ) (parts : List Partition) → AreRising parts → AreRising (take n parts)
rising_first n parts rising = sorted_from_all_adjacent partition_cmp_total (take n parts) no_partition (λ k h.
    (let short : k + 1 < n = omega (arith, h, length-take n parts) in
    let within : k + 1 < length parts = omega (arith, h, length-take n parts) in
    rw (get_or-take n parts k no_partition (omega arith), get_or-take n parts (k + 1) no_partition short) (Less-from_sorted partition_cmp parts k (k + 1) no_partition rising (omega arith) within)))

pub rising_rest : (n : ℕ) (parts : List Partition) → AreRising parts → AreRising (drop n parts)
rising_rest n parts rising = sorted_from_all_adjacent partition_cmp_total (drop n parts) no_partition (λ k h.
    (let within : n + (k + 1) < length parts = omega (arith, h, length-drop n parts) in
    rw (get_or-drop n parts k no_partition, get_or-drop n parts (k + 1) no_partition) (Less-from_sorted partition_cmp parts (n + k) (n + (k + 1)) no_partition rising (omega arith) within)))

-- ---- the partitions whose names are listed

-- a row stands in one of them where its name is listed, and it stands in one of all
one_listed : (names : Option (List ℕ)) (parts : List Partition) (row : Row) → is_of_parts (filter (λ partition. is_listed_name names partition.pname) parts) row ≡ (has_listed_name names row && is_of_parts parts row)
one_listed names parts row =
    any-filter_same (λ partition. is_of_partition partition row) (λ partition. is_listed_name names partition.pname) (has_listed_name names row)
    (λ partition is. ap (λ (p : Partition). is_listed_name names p.pname) (its_partition partition row is)) parts

pub listed_rows : (names : Option (List ℕ)) (parts : List Partition) (rows : List Row) →
    filter (is_of_parts (filter (λ partition. is_listed_name names partition.pname) parts)) rows ≡ filter (is_of_parts parts) (filter (has_listed_name names) rows)
listed_rows names parts rows =
    filter_agree (is_of_parts (filter (λ partition. is_listed_name names partition.pname) parts)) (λ row. has_listed_name names row && is_of_parts parts row) (one_listed names parts) rows
    ∙ filter_both (has_listed_name names) (is_of_parts parts) rows

first_of_both : (a b : Bool) → (a && b) ≡ true → a ≡ true
first_of_both true b both = refl
first_of_both false b both = absurd cc

pub each_listed : (wanted : Wanted) (parts : List Partition) (rows : List Row) →
    AllByRecursion (IsRowBetween wanted.table (filter (λ partition. is_listed_name wanted.names partition.pname) parts) wanted.from wanted.to) rows → AllByRecursion (IsWanted wanted) rows
each_listed wanted parts [] all = tt
each_listed wanted parts (row ∷ rows) all = (
  record {
    keyed = all.0.keyed;
    in_table = all.0.in_table;
    in_range = all.0.in_range;
    listed = first_of_both (has_listed_name wanted.names row) (is_of_parts parts row) (sym (one_listed wanted.names parts row) ∙ all.0.in_parts);
  },
  each_listed wanted parts rows all.1,
)

pub listed_rise : (names : Option (List ℕ)) (n : ℕ) (parts listed : List Partition) → AreRising parts → listed ≡ filter (λ partition. is_listed_name names partition.pname) (take n parts) → AreRising listed
listed_rise names n parts listed rising is = subst AreRising (sym is) (IsStrictlySortedBy-filter partition_cmp (λ partition. is_listed_name names partition.pname) (take n parts) (rising_first n parts rising))

-- ---- a day

pub wanted_sorted : (wanted : Wanted) (history : ℕ → List Row) → IsSortedBy is_before (rows_wanted wanted history)
wanted_sorted wanted history =
    let table = table_of wanted.table (history wanted.front) in
    IsSortedBy-filter is_before rows_rank (has_listed_name wanted.names) (filter (is_in_time_range wanted.from wanted.to) table)
    (IsSortedBy-filter is_before rows_rank (is_in_time_range wanted.from wanted.to) table (order_sorted (filter (is_in_table wanted.table) (history wanted.front))))

-- the rows of partitions are those of the first days, and then those of the others
pub day_split : (wanted : Wanted) (history : ℕ → List Row) (parts : List Partition) (n : ℕ) → EndsDay parts n → wanted_in wanted parts history ≡ wanted_in wanted (take n parts) history ++ wanted_in wanted (drop n parts) history
day_split wanted history parts n ends =
    filter_agree (is_of_parts parts) (λ row. is_of_parts (take n parts) row || is_of_parts (drop n parts) row)
    (λ row. ap (λ (ps : List Partition). is_of_parts ps row) (sym (take-append-drop n parts)) ∙ list_any-append (λ partition. is_of_partition partition row) (take n parts) (drop n parts)) (rows_wanted wanted history)
    ∙ split rows_rank (is_of_parts (take n parts)) (is_of_parts (drop n parts)) (days_in_order parts n ends) (rows_wanted wanted history) (ascending rows_rank (rows_wanted wanted history) (wanted_sorted wanted history))

-- the rows of the first day's partitions whose names are listed are those of the first day that are wanted
pub day_read : (told : Option (ℕ → List Row)) (wanted : Wanted) (parts listed : List Partition) (n : ℕ) (rows : List Row) → EndsDay parts n →
    listed ≡ filter (λ partition. is_listed_name wanted.names partition.pname) (take n parts) →
    IfSome told (λ history. rows ≡ range_of_parts wanted.table listed wanted.from wanted.to (history wanted.front)) →
    IfSome told (λ history. wanted_in wanted parts history ≡ rows ++ wanted_in wanted (drop n parts) history)
day_read None wanted parts listed n rows ends is got = tt
day_read (Some history) wanted parts listed n rows ends is got =
    let range = range_of wanted.table wanted.from wanted.to (history wanted.front) in
    let first : rows ≡ wanted_in wanted (take n parts) history =
    got ∙ ap (λ (ps : List Partition). filter (is_of_parts ps) range) is ∙ listed_rows wanted.names (take n parts) range in
    day_split wanted history parts n ends ∙ ap (λ (w : List Row). w ++ wanted_in wanted (drop n parts) history) (sym first)

-- ---- day after day

pub day_fetched : (told : Option (ℕ → List Row)) (wanted : Wanted) (parts slice : List Partition) (read count : ℕ) (rows : List Row) → slice ≡ drop read parts →
    IfSome told (λ history. wanted_in wanted slice history ≡ rows ++ wanted_in wanted (drop count slice) history) →
    IfSome told (λ history. wanted_in wanted (drop read parts) history ≡ rows ++ wanted_in wanted (drop (read + count) parts) history)
day_fetched told wanted parts slice read count rows is got =
    subst (λ (ps : List Partition). IfSome told (λ history. wanted_in wanted (drop read parts) history ≡ rows ++ wanted_in wanted ps history)) (drop-drop count read parts)
    (subst (λ (ps : List Partition). IfSome told (λ history. wanted_in wanted ps history ≡ rows ++ wanted_in wanted (drop count ps) history)) is got)
