-- Parts by interval: what they are over, and which rows they leave to extract.
use Rattle.std.proofs.Common.{◌≡◌, ℤ, ◌≤ℤ◌, ◌<ℤ◌, ◌≤◌, List, [], ◌∷◌, ◌++◌, length, Bool, true, false, cond, refl, sym, ◌∙◌, ap, subst, arith}
use Rattle.std.specs.Prelude.{ℕ, filter, int_lt, ◌&&◌, IsSome}
use Rattle.std.specs.Arc.{arc_value}
use Rattle.std.specs.List.{AllByRecursion}
use Rattle.std.proofs.lemmas.Bool.{false_from_ne_true}
use Rattle.std.proofs.lemmas.Int.{ints}
use Rattle.arch_disk.specs.Disk.{Device}
use Rattle.intervals.specs.declared.interval.Interval.{Interval}
use Rattle.arch_types.specs.declared.row.Row.{Row}
use Rattle.arch_types.specs.Table.{is_in_time_range, range_of, table_of}
use Rattle.fill_tracker.specs.FillTracker.{AreMarksOf}
use Rattle.history_items.specs.declared.fills.Fill.{Fill}
use Rattle.history_items.specs.declared.items.Item.{Item}
use Rattle.history_items.specs.Fills.{base_in}
use Rattle.history_items.specs.Items.{rows_in}
use Rattle.history_items.specs.Databases.{database_in}
use Rattle.history_items.specs.Late.{is_late_in, last_in}
use Rattle.history_items.proofs.Late.{late_by_last}
use Rattle.interval_fills.specs.Intervals.{rows_of_interval}
use Rattle.intervals.specs.Interval.{interval_end, interval_start}
use Rattle.interval_walks.specs.Turns.{CoverRange, IntervalsRise, MeetsRange, meets_range, rows_in_turn}
use Rattle.interval_walks.proofs.Rising.{range_is}
use Rattle.interval_walks.proofs.Turns.{few_in_turn, ranges}
use Rattle.late_marks.specs.Marks.{Marks, has_rows}
use Rattle.param_segments.specs.declared.plan.Part.{Part}
use Rattle.param_segments.specs.declared.plan.Part.TheVariants.{Rows, Set}
use Rattle.param_segments.specs.declared.plan.Plan.{Plan}
use Rattle.param_segments.specs.Plans.{ArePartsOver, HasValuesOf, part_interval, rows_of_parts}
use Rattle.store_fills.specs.LastFills.{fillings_in}
use Rattle.store_fills.specs.Sound.{base_of_filling}
use Rattle.archive_images.specs.Entries.{IsArchivedRow, IsSoundArchive}
use Rattle.archive_store.specs.Pages.{TellsRows}
use Rattle.archive_store.specs.Plans.{IsPlan, IsPlanOver, IsPlanPart, IsRangeInterval, interval_of_part, is_late_of_range, late_rows_of_range, plan_intervals}
use Rattle.archive_store.specs.StoreView.{StoreView, filled_of}
use Rattle.archive_images.proofs.Archived.{all_filtered, all_more}
use Rattle.archive_store.proofs.CurrentSets.{current_holds, last_row, marked_last}

-- ---- the intervals that are asked

pub all_asked : (exponent : ℕ) (marks : Marks) (fills : List Fill) (history : List Item) (low high : ℤ) (is : List Interval) → AreMarksOf exponent history fills marks → AllByRecursion (MeetsRange exponent low high) is
    → AllByRecursion (λ i. has_rows marks i ≡ true) is → AllByRecursion (IsRangeInterval exponent history low high) is
all_asked exponent marks fills history low high [] are meet marked = tt
all_asked exponent marks fills history low high (i ∷ is) are meet marked = ((meet.0, marked_last exponent marks fills history i are marked.0), all_asked exponent marks fills history low high is are meet.1 marked.1)

pub asked_have_rows : (exponent : ℕ) (history : List Item) (low high : ℤ) (is : List Interval) → AllByRecursion (IsRangeInterval exponent history low high) is → AllByRecursion (λ i. IsSome (last_in exponent i history)) is
asked_have_rows exponent history low high [] all = tt
asked_have_rows exponent history low high (i ∷ is) all = (all.0.1, asked_have_rows exponent history low high is all.1)

-- ---- a part more

push : (P : Part → Type 0) (parts : List Part) (part : Part) → AllByRecursion P parts → P part → AllByRecursion P (parts ++ part ∷ [])
push P [] part all here = (here, tt)
push P (p ∷ parts) part all here = (all.0, push P parts part all.1 here)

pub parts_push : (P : Part → Type 0) (parts next : List Part) (part : Part) → next ≡ parts ++ part ∷ [] → AllByRecursion P parts → P part → AllByRecursion P next
parts_push P parts next part is all here = subst (AllByRecursion P) (sym is) (push P parts part all here)

interval_push : (parts : List Part) (part : Part) (i : Interval) (rest : List Interval) → part_interval part ≡ i.0 → plan_intervals (parts ++ part ∷ []) ++ rest ≡ plan_intervals parts ++ i ∷ rest
interval_push [] part i rest same = ap (λ (n : ℤ). let j : Interval = record { 0 = n } in j ∷ rest) same
interval_push (p ∷ parts) part i rest same = ap (λ (l : List Interval). interval_of_part p ∷ l) (interval_push parts part i rest same)

pub intervals_push : (parts next : List Part) (part : Part) (i : Interval) (rest : List Interval) → next ≡ parts ++ part ∷ [] → part_interval part ≡ i.0 → plan_intervals next ++ rest ≡ plan_intervals parts ++ i ∷ rest
intervals_push parts next part i rest is same = ap (λ (l : List Part). plan_intervals l ++ rest) is ∙ interval_push parts part i rest same

-- ---- what parts have

module _ {D : Type 0} (device : Device D) (store : StoreView D) where
  pub plan_values : (parts : List Part) → AllByRecursion (IsPlanPart device store) parts → AllByRecursion (HasValuesOf (database_in store.head.mdb store.history)) parts
  plan_values [] all = tt
  plan_values (Set interval set ∷ parts) all = (all.0.fits.values, plan_values parts all.1)
  plan_values (Rows interval rows ∷ parts) all = (tt, plan_values parts all.1)

  pub plan_archived : (parts : List Part) → AllByRecursion (IsPlanPart device store) parts → AllByRecursion (IsArchivedRow store.head store.history) (rows_of_parts parts)
  plan_archived [] all = tt
  plan_archived (Set interval set ∷ parts) all = plan_archived parts all.1
  plan_archived (Rows interval rows ∷ parts) all = all_more (IsArchivedRow store.head store.history) rows (rows_of_parts parts) all.0.1 (plan_archived parts all.1)

  -- each part is over the rows of its interval, where the rows are told and the fills are sound
  parts_over : TellsRows device store → ((i : Interval) → base_in i store.fills ≡ base_of_filling (fillings_in store.filled) i) → IsSoundArchive (filled_of store) → (parts : List Part) → AllByRecursion (IsPlanPart device store) parts → AllByRecursion (λ i. IsSome (last_in store.exponent i store.history)) (plan_intervals parts)
      → ArePartsOver (database_in store.head.mdb store.history) parts (rows_in_turn store.exponent (plan_intervals parts) store.history)
  parts_over told bases sound [] all have = refl
  parts_over told bases sound (Set interval set ∷ parts) all have = (
    rows_of_interval store.exponent interval store.history,
    rows_in_turn store.exponent (plan_intervals parts) store.history,
    refl,
    current_holds store.head store.exponent store.history store.fills store.filled interval all.0.base (arc_value set) bases all.0.filled all.0.current (last_row store.exponent store.history interval have.0) sound,
    parts_over told bases sound parts all.1 have.1,
  )
  parts_over told bases sound (Rows interval rows ∷ parts) all have = (
    rows_of_interval store.exponent interval store.history,
    rows_in_turn store.exponent (plan_intervals parts) store.history,
    refl,
    all.0.2 told,
    parts_over told bases sound parts all.1 have.1,
  )

-- ---- the rows of a range

-- a range that ends no later than it begins has no rows
pub none_in_range : (low high : ℤ) → high ≤ℤ low → (rows : List Row) → filter (is_in_time_range low high) rows ≡ []
none_in_range low high empty [] = refl
none_in_range low high empty (row ∷ rows) = go (is_in_time_range low high row) refl (none_in_range low high empty rows)
  where
    go : (b : Bool) → is_in_time_range low high row ≡ b → filter (is_in_time_range low high) rows ≡ [] → cond b (row ∷ filter (is_in_time_range low high) rows) (filter (is_in_time_range low high) rows) ≡ []
    go true within rest = absurd (let p = range_is low high row within in omega (arith, ints, p.0, p.1, empty))
    go false without rest = rest

turns_in_range : (exponent : ℕ) (is : List Interval) (low high : ℤ) (history : List Item) → IntervalsRise is → (low <ℤ high → CoverRange exponent is low high history)
    → filter (is_in_time_range low high) (rows_in_turn exponent is history) ≡ range_of 0 low high (rows_in history)
turns_in_range exponent is low high history rising cover = go (int_lt low high) refl
  where
    go : (b : Bool) → int_lt low high ≡ b → filter (is_in_time_range low high) (rows_in_turn exponent is history) ≡ range_of 0 low high (rows_in history)
    go true test = let less : low <ℤ high = grind (arith, ints, test) in ranges exponent is low high history rising (cover less)
    go false test =
        let empty : high ≤ℤ low = grind (arith, ints, test) in
        none_in_range low high empty (rows_in_turn exponent is history) ∙ sym (none_in_range low high empty (table_of 0 (rows_in history)))

-- a plan is over the rows of its intervals, where the rows are told and the fills are sound
pub planned_over : {D : Type 0} (device : Device D) (store : StoreView D) (low high : ℤ) (plan : Plan) → TellsRows device store → ((i : Interval) → base_in i store.fills ≡ base_of_filling (fillings_in store.filled) i) → IsSoundArchive (filled_of store) → IsPlan device store low high plan
    → IsPlanOver store.head store.history low high plan
planned_over device store low high plan told bases sound planned = record {
  rows = rows_in_turn store.exponent (plan_intervals plan.parts) store.history;
  over = parts_over device store told bases sound plan.parts planned.each (asked_have_rows store.exponent store.history low high (plan_intervals plan.parts) planned.meets);
  in_range = turns_in_range store.exponent (plan_intervals plan.parts) low high store.history planned.rising planned.cover;
}

-- ---- the rows that are left to extract

pub rise_filtered : (test : Interval → Bool) (is : List Interval) → IntervalsRise is → IntervalsRise (filter test is)
rise_filtered test [] rising = tt
rise_filtered test (i ∷ is) rising = either (test i) (rise_filtered test is rising.1)
  where
    either : (b : Bool) → IntervalsRise (filter test is) → IntervalsRise (cond b (i ∷ filter test is) (filter test is))
    either true rest = (all_filtered (λ (j : Interval). i.0 <ℤ j.0) test is rising.0, rest)
    either false rest = rest

pass_filtered : (test : Interval → Bool) (is : List Interval) → AllByRecursion (λ i. test i ≡ true) (filter test is)
pass_filtered test [] = tt
pass_filtered test (i ∷ is) = either (test i) refl (pass_filtered test is)
  where
    either : (b : Bool) → test i ≡ b → AllByRecursion (λ j. test j ≡ true) (filter test is) → AllByRecursion (λ j. test j ≡ true) (cond b (i ∷ filter test is) (filter test is))
    either true passes rest = (passes, rest)
    either false fails rest = rest

meets_is : (exponent : ℕ) (low high : ℤ) (i : Interval) → MeetsRange exponent low high i → meets_range exponent low high i ≡ true
meets_is exponent low high i meets =
    let begins : int_lt (interval_start exponent i) high ≡ true = less_is (interval_start exponent i) high meets.begins in
    let ends : int_lt low (interval_end exponent i) ≡ true = less_is low (interval_end exponent i) meets.ends in
    ap (λ (b : Bool). b && int_lt low (interval_end exponent i)) begins ∙ ends
  where
    less_is : (a b : ℤ) → a <ℤ b → int_lt a b ≡ true
    less_is a b less = grind (arith, ints, less)

module _ {D : Type 0} (device : Device D) (store : StoreView D) (low high : ℤ) (told : TellsRows device store) where
  abbrev test : Interval → Bool
  test = is_late_of_range store.exponent store.history store.fills low high

  -- the rows that parts leave are those of their intervals that are late
  rows_left : (parts : List Part) → AllByRecursion (IsPlanPart device store) parts → AllByRecursion (IsRangeInterval store.exponent store.history low high) (plan_intervals parts)
      → rows_of_parts parts ≡ rows_in_turn store.exponent (filter test (plan_intervals parts)) store.history
  rows_left [] all asked = refl
  rows_left (Set interval set ∷ parts) all asked =
      let js = filter test (plan_intervals parts) in
      let punctual : is_late_in store.exponent interval store.history store.fills ≡ false = false_from_ne_true (is_late_in store.exponent interval store.history store.fills) (λ late. all.0.current ((late_by_last store.exponent interval store.history store.fills).0 late)) in
      let fails : test interval ≡ false = ap (λ (b : Bool). b && meets_range store.exponent low high interval) punctual in
      rows_left parts all.1 asked.1 ∙ ap (λ (b : Bool). rows_in_turn store.exponent (cond b (interval ∷ js) js) store.history) (sym fails)
  rows_left (Rows interval rows ∷ parts) all asked =
      let js = filter test (plan_intervals parts) in
      let late : is_late_in store.exponent interval store.history store.fills ≡ true = (late_by_last store.exponent interval store.history store.fills).1 all.0.0 in
      let passes : test interval ≡ true = ap (λ (b : Bool). b && meets_range store.exponent low high interval) late ∙ meets_is store.exponent low high interval asked.0.0 in
      ap (λ (l : List Row). l ++ rows_of_parts parts) (all.0.2 told) ∙ ap (λ (l : List Row). rows_of_interval store.exponent interval store.history ++ l) (rows_left parts all.1 asked.1)
      ∙ ap (λ (b : Bool). rows_in_turn store.exponent (cond b (interval ∷ js) js) store.history) (sym passes)

  pub few_left : (plan : Plan) → IsPlan device store low high plan → length (rows_of_parts plan.parts) ≤ length (late_rows_of_range store.exponent store.history store.fills low high)
  few_left plan planned =
      let is = plan_intervals plan.parts in
      let left = ap length (rows_left plan.parts planned.each planned.meets) in
      let few = few_in_turn store.exponent test (filter test is) store.history (rise_filtered test is planned.rising) (pass_filtered test is) in
      omega (arith, left, few)
