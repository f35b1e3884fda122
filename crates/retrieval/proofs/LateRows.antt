-- Of the rows that a plan leaves to extract, those in its range are the late rows of the range.
use Rattle.std.proofs.Common.{ℕ, ◌≡◌, ℤ, ◌≤ℤ◌, ◌<ℤ◌, List, [], ◌∷◌, ◌++◌, Bool, true, false, cond, refl, sym, ◌∙◌, ap, arith}
use Rattle.std.specs.Prelude.{filter, int_lt, ◌&&◌}
use Rattle.std.specs.List.{AllByRecursion}
use Rattle.std.proofs.lemmas.Bool.{false_from_ne_true}
use Rattle.std.proofs.lemmas.Int.{ints}
use Rattle.std.proofs.lemmas.List.Elements.{filter-append}
use Rattle.arch_disk.specs.Disk.{Device}
use Rattle.intervals.specs.declared.interval.Interval.{Interval}
use Rattle.arch_types.specs.declared.row.Row.{Row}
use Rattle.arch_types.specs.Table.{is_in_time_range, range_of, table_of}
use Rattle.history_items.specs.declared.items.Item.{Item}
use Rattle.history_items.specs.Items.{rows_in}
use Rattle.history_items.specs.Late.{is_late_in}
use Rattle.history_items.proofs.Late.{late_by_last}
use Rattle.partitions.proofs.Filters.{filter_swap, none_pass}
use Rattle.interval_fills.specs.Intervals.{rows_of_interval}
use Rattle.intervals.specs.Interval.{interval_end, interval_start}
use Rattle.interval_fills.proofs.Intervals.{range_in}
use Rattle.interval_walks.specs.Counts.{row_interval}
use Rattle.interval_walks.specs.Turns.{CoverRange, IntervalsRise, meets_range, rows_in_turn}
use Rattle.interval_walks.proofs.Turns.{ranges}
use Rattle.param_segments.specs.declared.plan.Part.{Part}
use Rattle.param_segments.specs.declared.plan.Part.TheVariants.{Rows, Set}
use Rattle.param_segments.specs.declared.plan.Plan.{Plan}
use Rattle.param_segments.specs.Plans.{rows_of_parts}
use Rattle.archive_store.specs.Pages.{TellsRows}
use Rattle.archive_store.specs.Plans.{IsPlan, IsPlanPart, IsRangeInterval, is_late_of_range, late_rows_of_range, plan_intervals}
use Rattle.archive_store.specs.StoreView.{StoreView}
use Rattle.archive_store.proofs.Planning.{none_in_range}
use Rattle.retrieval.proofs.OneList.{meets_true}

-- ---- the rows of an interval pass a test of intervals together

module _ (exponent : ℕ) (test : Interval → Bool) where
  abbrev row_test : Row → Bool
  row_test row = test (row_interval exponent row)

  abbrev stands_in : Interval → Row → Bool
  stands_in i = is_in_time_range (interval_start exponent i) (interval_end exponent i)

  of_interval : (i : Interval) (b : Bool) → test i ≡ b → (row : Row) → stands_in i row ≡ true → row_test row ≡ b
  of_interval i b result row inside = ap (λ (n : ℤ). let j : Interval = record { 0 = n } in test j) (range_in exponent i row inside) ∙ result

  all_pass : (i : Interval) → test i ≡ true → (rows : List Row) → filter row_test (filter (stands_in i) rows) ≡ filter (stands_in i) rows
  all_pass i passes [] = refl
  all_pass i passes (row ∷ rows) = go (stands_in i row) refl (all_pass i passes rows)
    where
      go : (b : Bool) → stands_in i row ≡ b → filter row_test (filter (stands_in i) rows) ≡ filter (stands_in i) rows
          → filter row_test (cond b (row ∷ filter (stands_in i) rows) (filter (stands_in i) rows)) ≡ cond b (row ∷ filter (stands_in i) rows) (filter (stands_in i) rows)
      go true inside rest = rw (of_interval i true passes row inside) (ap (λ (l : List Row). row ∷ l) rest)
      go false outside rest = rest

  all_fail : (i : Interval) → test i ≡ false → (rows : List Row) → AllByRecursion (λ row. row_test row ≡ false) (filter (stands_in i) rows)
  all_fail i fails [] = tt
  all_fail i fails (row ∷ rows) = go (stands_in i row) refl (all_fail i fails rows)
    where
      go : (b : Bool) → stands_in i row ≡ b → AllByRecursion (λ x. row_test x ≡ false) (filter (stands_in i) rows)
          → AllByRecursion (λ x. row_test x ≡ false) (cond b (row ∷ filter (stands_in i) rows) (filter (stands_in i) rows))
      go true inside rest = (of_interval i false fails row inside, rest)
      go false outside rest = rest

  pub interval_passes : (i : Interval) (history : List Item) → test i ≡ true → filter row_test (rows_of_interval exponent i history) ≡ rows_of_interval exponent i history
  interval_passes i history passes = all_pass i passes (table_of 0 (rows_in history))

  pub interval_fails : (i : Interval) (history : List Item) → test i ≡ false → filter row_test (rows_of_interval exponent i history) ≡ []
  interval_fails i history fails = none_pass row_test (rows_of_interval exponent i history) (all_fail i fails (table_of 0 (rows_in history)))

-- ---- intervals that cover a range

pub turns_in_range : (exponent : ℕ) (is : List Interval) (low high : ℤ) (history : List Item) → IntervalsRise is → (low <ℤ high → CoverRange exponent is low high history)
    → filter (is_in_time_range low high) (rows_in_turn exponent is history) ≡ range_of 0 low high (rows_in history)
turns_in_range exponent is low high history rising cover = go (int_lt low high) refl
  where
    go : (b : Bool) → int_lt low high ≡ b → filter (is_in_time_range low high) (rows_in_turn exponent is history) ≡ range_of 0 low high (rows_in history)
    go true test = let less : low <ℤ high = grind (arith, ints, test) in ranges exponent is low high history rising (cover less)
    go false test =
        let empty : high ≤ℤ low = grind (arith, ints, test) in
        none_in_range low high empty (rows_in_turn exponent is history) ∙ sym (none_in_range low high empty (table_of 0 (rows_in history)))

-- ---- a plan

module _ {D : Type 0} (device : Device D) (store : StoreView D) (low high : ℤ) (told : TellsRows device store) where
  abbrev is_late : Interval → Bool
  is_late = is_late_of_range store.exponent store.history store.fills low high

  -- the rows that parts leave to extract are those of late intervals
  late_left : (parts : List Part) → AllByRecursion (IsPlanPart device store) parts → AllByRecursion (IsRangeInterval store.exponent store.history low high) (plan_intervals parts)
      → rows_of_parts parts ≡ filter (row_test store.exponent is_late) (rows_in_turn store.exponent (plan_intervals parts) store.history)
  late_left [] each meet = refl
  late_left (Set interval set ∷ parts) each meet =
      let own = rows_of_interval store.exponent interval store.history in
      let behind = rows_in_turn store.exponent (plan_intervals parts) store.history in
      let punctual : is_late_in store.exponent interval store.history store.fills ≡ false = false_from_ne_true (is_late_in store.exponent interval store.history store.fills) (λ late. each.0.current ((late_by_last store.exponent interval store.history store.fills).0 late)) in
      let fails : is_late interval ≡ false = ap (λ (b : Bool). b && meets_range store.exponent low high interval) punctual in
      late_left parts each.1 meet.1
      ∙ ap (λ (l : List Row). l ++ filter (row_test store.exponent is_late) behind) (sym (interval_fails store.exponent is_late interval store.history fails))
      ∙ sym (filter-append (row_test store.exponent is_late) own behind)
  late_left (Rows interval rows ∷ parts) each meet =
      let own = rows_of_interval store.exponent interval store.history in
      let behind = rows_in_turn store.exponent (plan_intervals parts) store.history in
      let late : is_late_in store.exponent interval store.history store.fills ≡ true = (late_by_last store.exponent interval store.history store.fills).1 each.0.0 in
      let passes : is_late interval ≡ true = ap (λ (b : Bool). b && meets_range store.exponent low high interval) late ∙ meets_true store.exponent low high interval meet.0.0 in
      ap (λ (l : List Row). l ++ rows_of_parts parts) (each.0.2 told ∙ sym (interval_passes store.exponent is_late interval store.history passes))
      ∙ ap (λ (l : List Row). filter (row_test store.exponent is_late) own ++ l) (late_left parts each.1 meet.1)
      ∙ sym (filter-append (row_test store.exponent is_late) own behind)

  pub late_in_range : (plan : Plan) → IsPlan device store low high plan
      → filter (is_in_time_range low high) (rows_of_parts plan.parts) ≡ filter (is_in_time_range low high) (late_rows_of_range store.exponent store.history store.fills low high)
  late_in_range plan planned =
      let in_range = is_in_time_range low high in
      let is = plan_intervals plan.parts in
      ap (filter in_range) (late_left plan.parts planned.each planned.meets)
      ∙ filter_swap in_range (row_test store.exponent is_late) (rows_in_turn store.exponent is store.history)
      ∙ ap (filter (row_test store.exponent is_late)) (turns_in_range store.exponent is low high store.history planned.rising planned.cover)
      ∙ filter_swap (row_test store.exponent is_late) in_range (table_of 0 (rows_in store.history))
