-- What is selected of the rows in the bounds of a condition is all that is selected.
use Rattle.std.proofs.Common.{◌≡◌, ◌↔◌, ℕ, ℤ, ◌+◌, ◌≤◌, List, [], ◌∷◌, ◌++◌, length, reverse, Option, Some, None, Bool, true, false, cond, refl, sym, ap, ◌∙◌, arith}
use Rattle.std.specs.Prelude.{filter, flat_map, Result, Ok, Err, IfOk, IfSome, Contains, int_lt}
use Rattle.std.specs.List.{AllByRecursion}
use Rattle.std.proofs.lemmas.Int.{ints}
use Rattle.std.proofs.lemmas.List.{append-nil, reverse-append}
use Rattle.std.proofs.lemmas.List.Elements.{filter-append, filter_agree, recursion_from_All, All-from_recursion, All-filter}
use Rattle.std.proofs.lemmas.List.Folds.{Any-from_list_any, list_any-from_Any}
use Rattle.std.proofs.lemmas.List.Sorted.{All-permutation, length_permutation}
use Rattle.text_forms.specs.ClockTime.{IsClockTime}
use Rattle.arch_types.specs.declared.row.Row.{Row}
use Rattle.arch_types.specs.Order.{is_before}
use Rattle.arch_types.specs.History.{is_in_table}
use Rattle.arch_types.specs.Table.{sorted, table_of, range_of, is_in_time_range}
use Rattle.arch_types.proofs.Ranks.{rows_rank}
use Rattle.arch_types.proofs.Ordered.{filter-order}
use Rattle.arch_types.proofs.InOrder.{order_same}
use Rattle.partitions.specs.declared.partition.Partition.{Partition}
use Rattle.partitions.specs.declared.bounds.Bounds.{Bounds}
use Rattle.partitions.specs.Bounds.{IsInBounds}
use Rattle.partitions.specs.Rows.{is_of_partition, is_of_parts}
use Rattle.partitions.proofs.Filters.{filter_swap}
use Rattle.replay_merge.specs.Replay.{has_listed_name}
use Rattle.replay_merge.specs.Laws.{HoldsPruned}
use Rattle.replay_merge.proofs.Bounds.{listed_is_among, pruned_is_enough}
use Rattle.replay_merge.proofs.Reading.{all_both, all_pass}
use Rattle.arch_types.specs.declared.direction.Direction.{Direction}
use Rattle.arch_types.specs.declared.direction.Direction.TheVariants.{Ascending, Descending}
use Rattle.ssql_conditions.specs.Formulas.{Formula}
use Rattle.ssql_conditions.specs.ConditionBounds.{bounds_of}
use Rattle.ssql_conditions.proofs.InBounds.{in_bounds}
use Rattle.ssql_types.specs.declared.query.TypedSelect.{TypedSelect}
use Rattle.arch_types.specs.Directions.{in_direction, truncated}
use Rattle.ssql_select.specs.Selection.{is_selected, selected_of, selected_rows, selection_of, IsHeld, HoldsSelected, rows_between_of, rows_looked_at, merged_between, selected_between}
use Rattle.ssql_select.proofs.Merged.{filter_flat}
use Rattle.ssql_select.proofs.Selecting.{last_kept}

pub if_ok : {X E : Type 0} (r : Result X E) (P Q : X → Type 0) → ((x : X) → P x → Q x) → IfOk r P → IfOk r Q
if_ok (Ok x) P Q f p = f x p
if_ok (Err e) P Q f p = tt

-- ---- directions

last_test : (q : Row → Bool) (row : Row) (xs : List Row) → reverse xs ++ filter q (row ∷ []) ≡ reverse (filter q (row ∷ []) ++ xs)
last_test q row xs = by (q row)
  where
    by : (b : Bool) → reverse xs ++ cond b (row ∷ []) [] ≡ reverse (cond b (row ∷ []) [] ++ xs)
    by true = sym (reverse-append (row ∷ []) xs)
    by false = none (reverse xs)
      where
        none : (l : List Row) → l ++ [] ≡ l
        none [] = refl
        none (x ∷ l) = ap (λ (w : List Row). x ∷ w) (none l)

first_test : (q : Row → Bool) (row : Row) (rows : List Row) → filter q (row ∷ []) ++ filter q rows ≡ filter q (row ∷ rows)
first_test q row rows = by (q row)
  where
    by : (b : Bool) → cond b (row ∷ []) [] ++ filter q rows ≡ cond b (row ∷ filter q rows) (filter q rows)
    by true = refl
    by false = refl

filter_reverse : (q : Row → Bool) (rows : List Row) → filter q (reverse rows) ≡ reverse (filter q rows)
filter_reverse q [] = refl
filter_reverse q (row ∷ rows) =
    ap (filter q) (reverse-append (row ∷ []) rows)
    ∙ filter-append q (reverse rows) (row ∷ [])
    ∙ ap (λ (l : List Row). l ++ filter q (row ∷ [])) (filter_reverse q rows)
    ∙ last_test q row (filter q rows)
    ∙ ap reverse (first_test q row rows)

filter_directed : (q : Row → Bool) (direction : Direction) (rows : List Row) → filter q (in_direction direction rows) ≡ in_direction direction (filter q rows)
filter_directed q Ascending rows = refl
filter_directed q Descending rows = filter_reverse q rows

-- ---- one table

-- whether times and names of bounds are a row's
module _ (bounds : Bounds) (row : Row) (is : IsInBounds bounds row.key.time row.pname) where
  pub in_range : is_in_time_range bounds.from bounds.to row ≡ true
  in_range =
      let low = is.from in
      let high = is.to in
      let a : int_lt row.key.time bounds.from ≡ false = grind (arith, ints) in
      let b : int_lt row.key.time bounds.to ≡ true = grind (arith, ints) in
      rw (a, b) refl

module _ (condition : Formula) (parts : List Partition) where
  each_in_range : (rows : List Row) → AllByRecursion (IsHeld parts) (filter (is_selected condition) rows) →
      AllByRecursion (λ row. is_in_time_range (bounds_of condition).from (bounds_of condition).to row ≡ true) (filter (is_selected condition) rows)
  each_in_range [] all = tt
  each_in_range (row ∷ rows) all = by (is_selected condition row) refl (each_in_range rows)
    where
      by : (b : Bool) → is_selected condition row ≡ b →
          (AllByRecursion (IsHeld parts) (filter (is_selected condition) rows) → AllByRecursion (λ row. is_in_time_range (bounds_of condition).from (bounds_of condition).to row ≡ true) (filter (is_selected condition) rows)) →
          AllByRecursion (λ row. is_in_time_range (bounds_of condition).from (bounds_of condition).to row ≡ true) (filter (is_selected condition) (row ∷ rows))
      by true e later =
          let each = rw e at all in
          rw e (in_range (bounds_of condition) row (in_bounds condition row each.0.clock e), later each.1)
      by false e later = let each = rw e at all in rw e (later each)

  each_in_parts : (rows : List Row) → AllByRecursion (IsHeld parts) rows → AllByRecursion (λ row. is_of_parts parts row ≡ true) rows
  each_in_parts [] all = tt
  each_in_parts (row ∷ rows) all = (all.0.in_parts, each_in_parts rows all.1)

  -- the rows of a table that are selected are in the range and in the partitions
  table_selected : (table : ℕ) (history : List Row) → AllByRecursion (IsHeld parts) (selected_of condition history table) →
      filter (is_selected condition) (filter (is_of_parts parts) (range_of table (bounds_of condition).from (bounds_of condition).to history)) ≡ selected_of condition history table
  table_selected table history held =
      let q = is_selected condition in
      let p = is_of_parts parts in
      let r = is_in_time_range (bounds_of condition).from (bounds_of condition).to in
      let rows = table_of table history in
      filter_swap q p (filter r rows)
      ∙ ap (filter p) (filter_swap q r rows ∙ all_pass r (filter q rows) (each_in_range rows held))
      ∙ all_pass p (filter q rows) (each_in_parts (filter q rows) held)

  tables_selected : (tables : List ℕ) (history : List Row) → AllByRecursion (IsHeld parts) (selected_rows condition tables history) →
      flat_map (λ table. filter (is_selected condition) (filter (is_of_parts parts) (range_of table (bounds_of condition).from (bounds_of condition).to history))) tables ≡ selected_rows condition tables history
  tables_selected [] history held = refl
  tables_selected (table ∷ tables) history held =
      let both = last_kept (IsHeld parts) (selected_of condition history table) (selected_rows condition tables history) held in
      let first = table_selected table history both.0 in
      let later = tables_selected tables history both.1 in
      rw (first, later) refl

-- ---- all tables

-- what is selected in the bounds is all that is selected
pub all_selected : (statement : TypedSelect) (parts : List Partition) (history : List Row) → HoldsSelected statement parts history →
    truncated statement.limit (selected_between statement parts (bounds_of statement.condition).from (bounds_of statement.condition).to history) ≡ selection_of statement history
all_selected statement parts history held =
    let q = is_selected statement.condition in
    let p = is_of_parts parts in
    let from = (bounds_of statement.condition).from in
    let to = (bounds_of statement.condition).to in
    let ranges = flat_map (λ table. range_of table from to history) statement.sources in
    ap (truncated statement.limit)
    (filter_directed q statement.direction (filter p (sorted ranges))
    ∙ ap (λ (l : List Row). in_direction statement.direction l)
    (ap (filter q) (filter-order rows_rank p ranges)
    ∙ filter-order rows_rank q (filter p ranges)
    ∙ ap sorted (ap (filter q) (filter_flat p (λ table. range_of table from to history) statement.sources)
    ∙ filter_flat q (λ table. filter p (range_of table from to history)) statement.sources
    ∙ tables_selected statement.condition parts statement.sources history held)))

-- ---- partitions in another order

module _ (given rising : List Partition) (same : (partition : Partition) → Contains rising partition ↔ Contains given partition) where
  there : (row : Row) → is_of_parts given row ≡ true → is_of_parts rising row ≡ true
  there row is =
      let any = Any-from_list_any (λ partition. is_of_partition partition row) given is in
      let at = (same any.1).1 (any.0, any.2, any.3) in
      list_any-from_Any (λ partition. is_of_partition partition row) rising (at.0, any.1, at.1, at.2, any.4)

  back : (row : Row) → is_of_parts rising row ≡ true → is_of_parts given row ≡ true
  back row is =
      let any = Any-from_list_any (λ partition. is_of_partition partition row) rising is in
      let at = (same any.1).0 (any.0, any.2, any.3) in
      list_any-from_Any (λ partition. is_of_partition partition row) given (at.0, any.1, at.1, at.2, any.4)

  same_parts : (row : Row) → is_of_parts rising row ≡ is_of_parts given row
  same_parts row = by (is_of_parts rising row) (is_of_parts given row) refl refl
    where
      by : (a b : Bool) → is_of_parts rising row ≡ a → is_of_parts given row ≡ b → is_of_parts rising row ≡ is_of_parts given row
      by true true ea eb = ea ∙ sym eb
      by true false ea eb = let other = back row ea in absurd cc
      by false true ea eb = let other = there row eb in absurd cc
      by false false ea eb = ea ∙ sym eb

  held_by_these : (rows : List Row) → AllByRecursion (IsHeld given) rows → AllByRecursion (IsHeld rising) rows
  held_by_these [] all = tt
  held_by_these (row ∷ rows) all = (record { in_parts = same_parts row ∙ all.0.in_parts; clock = all.0.clock }, held_by_these rows all.1)

  -- what is told of a selection over the partitions in their order
  pub selected_told : (told : Option (ℕ → List Row)) (statement : TypedSelect) (front : ℕ) (bounds : Bounds) (rows : List Row) → bounds ≡ bounds_of statement.condition →
      IfSome told (λ history. rows ≡ truncated statement.limit (selected_between statement rising bounds.from bounds.to (history front))) →
      IfSome told (λ history. HoldsSelected statement given (history front) → rows ≡ selection_of statement (history front))
  selected_told None statement front bounds rows is got = tt
  selected_told (Some history) statement front bounds rows is got = λ held.
      got ∙ ap (λ (b : Bounds). truncated statement.limit (selected_between statement rising b.from b.to (history front))) is
      ∙ all_selected statement rising (history front) (held_by_these (selected_rows statement.condition statement.sources (history front)) held)

  same_of_tables : (from to : ℤ) (tables : List ℕ) (history : List Row) → flat_map (λ table. filter (is_of_parts rising) (range_of table from to history)) tables ≡ rows_between_of tables given from to history
  same_of_tables from to [] history = refl
  same_of_tables from to (table ∷ tables) history =
      let first = filter_agree (is_of_parts rising) (is_of_parts given) same_parts (range_of table from to history) in
      let later = same_of_tables from to tables history in
      rw (first, later) refl

  as_many_merged : (from to : ℤ) (tables : List ℕ) (history : List Row) → length (filter (is_of_parts rising) (merged_between tables from to history)) ≡ length (rows_between_of tables given from to history)
  as_many_merged from to tables history =
      let ranges = flat_map (λ table. range_of table from to history) tables in
      let p = is_of_parts rising in
      ap length (filter-order rows_rank p ranges)
      ∙ (length_permutation (filter p ranges) (sorted (filter p ranges)) (order_same is_before (filter p ranges)))
      ∙ ap length (filter_flat p (λ table. range_of table from to history) tables ∙ same_of_tables from to tables history)

  -- the steps are no more than rows stand in the partitions, with a time in the bounds
  pub steps_told : (told : Option (ℕ → List Row)) (statement : TypedSelect) (front : ℕ) (bounds : Bounds) (first now : ℕ) → bounds ≡ bounds_of statement.condition →
      IfSome told (λ history. now ≤ first + length (filter (is_of_parts rising) (merged_between statement.sources bounds.from bounds.to (history front)))) →
      IfSome told (λ history. now ≤ first + length (rows_looked_at statement given (history front)))
  steps_told None statement front bounds first now is h = tt
  steps_told (Some history) statement front bounds first now is h =
      let as_many = as_many_merged bounds.from bounds.to statement.sources (history front) in
      let looked_at : length (rows_between_of statement.sources given bounds.from bounds.to (history front)) ≡ length (rows_looked_at statement given (history front)) =
      ap (λ (b : Bounds). length (rows_between_of statement.sources given b.from b.to (history front))) is in
      omega (arith, h, as_many, looked_at)

-- ---- pruned partitions

module _ (r n : Row → Bool) (P : Row → Type 0) (row : Row) (rows : List Row) where
  later_kept : (a b : Bool) → r row ≡ a → n row ≡ b → AllByRecursion P (filter n (filter r (row ∷ rows))) → AllByRecursion P (filter n (filter r rows))
  later_kept true true ea eb each = let two = rw (ea, eb) at each in two.1
  later_kept true false ea eb each = rw (ea, eb) at each
  later_kept false b ea eb each = rw ea at each

  first_kept : r row ≡ true → n row ≡ true → AllByRecursion P (filter n (filter r (row ∷ rows))) → P row
  first_kept ea eb each = let two = rw (ea, eb) at each in two.0

module _ (condition : Formula) (parts : List Partition) where
  kept_held : (rows : List Row) → AllByRecursion (λ row. IsClockTime row.key.time) rows →
      AllByRecursion (λ row. is_of_parts parts row ≡ true) (filter (has_listed_name (bounds_of condition).names) (filter (is_in_time_range (bounds_of condition).from (bounds_of condition).to) rows)) →
      AllByRecursion (IsHeld parts) (filter (is_selected condition) rows)
  kept_held [] clocks all = tt
  kept_held (row ∷ rows) clocks all = by (is_selected condition row) refl (kept_held rows clocks.1)
    where
      by : (b : Bool) → is_selected condition row ≡ b →
          (AllByRecursion (λ row. is_of_parts parts row ≡ true) (filter (has_listed_name (bounds_of condition).names) (filter (is_in_time_range (bounds_of condition).from (bounds_of condition).to) rows)) → AllByRecursion (IsHeld parts) (filter (is_selected condition) rows)) →
          AllByRecursion (IsHeld parts) (filter (is_selected condition) (row ∷ rows))
      by true e later =
          let r = is_in_time_range (bounds_of condition).from (bounds_of condition).to in
          let n = has_listed_name (bounds_of condition).names in
          let P : Row → Type 0 = λ x. is_of_parts parts x ≡ true in
          let is = in_bounds condition row clocks.0 e in
          let a = in_range (bounds_of condition) row is in
          let b = (listed_is_among (bounds_of condition).names row.pname).1 is.name in
          rw e (record { in_parts = first_kept r n P row rows a b all; clock = clocks.0 }, later (later_kept r n P row rows true true a b all))
      by false e later =
          let r = is_in_time_range (bounds_of condition).from (bounds_of condition).to in
          let n = has_listed_name (bounds_of condition).names in
          let P : Row → Type 0 = λ x. is_of_parts parts x ≡ true in
          rw e (later (later_kept r n P row rows (r row) (n row) refl refl all))

  table_held : (table : ℕ) (history : List Row) → AllByRecursion (λ row. IsClockTime row.key.time) history → HoldsPruned (bounds_of condition) (filter (is_in_table table) history) parts →
      AllByRecursion (IsHeld parts) (selected_of condition history table)
  table_held table history clocks pruned =
      let those = filter (is_in_table table) history in
      let P : Row → Type 0 = λ row. IsClockTime row.key.time in
      let times : AllByRecursion P (table_of table history) =
      recursion_from_All P (table_of table history) (All-permutation P those (table_of table history) (order_same is_before those) (All-filter (is_in_table table) P history (All-from_recursion P history clocks))) in
      kept_held (table_of table history) times (pruned_is_enough (bounds_of condition) table parts history history pruned ([], append-nil history))

  pub tables_held : (tables : List ℕ) (history : List Row) → AllByRecursion (λ row. IsClockTime row.key.time) history →
      AllByRecursion (λ table. HoldsPruned (bounds_of condition) (filter (is_in_table table) history) parts) tables → AllByRecursion (IsHeld parts) (selected_rows condition tables history)
  tables_held [] history clocks pruned = tt
  tables_held (table ∷ tables) history clocks pruned =
      all_both (IsHeld parts) (selected_of condition history table) (selected_rows condition tables history) (table_held table history clocks pruned.0) (tables_held tables history clocks pruned.1)
