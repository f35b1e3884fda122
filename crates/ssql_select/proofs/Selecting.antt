-- A selection, row after row and day after day.
use Rattle.std.proofs.Common.{◌≡◌, ℕ, ℤ, ◌+◌, ◌≤◌, List, [], ◌∷◌, ◌++◌, length, reverse, Option, Some, None, Bool, true, false, cond, refl, sym, ap, ◌∙◌, append_assoc, length-append, subst, arith}
use Rattle.std.specs.Prelude.{filter, IfSome, ◌==◌}
use Rattle.std.proofs.lemmas.Bool.Decides.{nat_tests}
use Rattle.std.specs.List.{AllByRecursion}
use Rattle.std.proofs.lemmas.List.{reverse-append, length-reverse}
use Rattle.std.proofs.lemmas.List.Elements.{filter-append}
use Rattle.arch_types.specs.declared.row.Row.{Row}
use Rattle.arch_types.specs.Table.{sorted}
use Rattle.partitions.specs.declared.partition.Partition.{Partition}
use Rattle.partitions.specs.Rows.{is_of_parts}
use Rattle.partitions.proofs.Filters.{none_pass}
use Rattle.replay_merge.specs.RowSource.{AreInKeyOrder}
use Rattle.replay_merge.proofs.Pieces.{all_first}
use Rattle.replay_merge.proofs.Reading.{all_both}
use Rattle.replay_merge.proofs.Sources.{each_tested}
use Rattle.arch_types.proofs.InOrder.{order_sorted}
use Rattle.arch_types.specs.declared.direction.Direction.{Direction}
use Rattle.arch_types.specs.declared.direction.Direction.TheVariants.{Ascending, Descending}
use Rattle.ssql_types.specs.declared.query.TypedSelect.{TypedSelect}
use Rattle.arch_types.specs.Table.{range_of}
use Rattle.std.specs.Prelude.{flat_map}
use Rattle.arch_types.specs.Directions.{in_direction, truncated}
use Rattle.ssql_select.specs.Selection.{is_selected, is_enough, rows_between_of, merged_between, selected_between}
use Rattle.ssql_select.proofs.Limits.{enough, room, all_taken, next_rows}
use Rattle.ssql_select.proofs.Merged.{merged_in_parts}

-- ---- the last row of some

pub last_kept : (P : Row → Type 0) (xs ys : List Row) → AllByRecursion P (xs ++ ys) → AllByRecursion P xs × AllByRecursion P ys
last_kept P [] ys all = (tt, all)
last_kept P (x ∷ xs) ys all = let rest = last_kept P xs ys all.1 in ((all.0, rest.0), rest.1)

length_test : (q : Row → Bool) (row : Row) → length (filter q (row ∷ [])) ≤ 1
length_test q row = by (q row)
  where
    by : (b : Bool) → length (cond b (row ∷ []) []) ≤ 1
    by true = omega arith
    by false = omega arith

first_tested : (q : Row → Bool) (row : Row) (rows : List Row) → filter q (row ∷ rows) ≡ filter q (row ∷ []) ++ filter q rows
first_tested q row rows = by (q row)
  where
    by : (b : Bool) → cond b (row ∷ filter q rows) (filter q rows) ≡ cond b (row ∷ []) [] ++ filter q rows
    by true = refl
    by false = refl

module _ (q : Row → Bool) (limit : Option ℕ) (found new left rest : List Row) (row : Row) (all : List Row) (space : is_enough limit found ≡ false)
    (added : new ≡ found ++ filter q (row ∷ [])) (is : left ≡ rest ++ row ∷ []) where
  -- the last row was looked at
  pub row_taken : truncated limit (found ++ filter q (reverse left)) ≡ all → truncated limit (new ++ filter q (reverse rest)) ≡ all
  row_taken h =
      let turned : reverse left ≡ row ∷ reverse rest = ap reverse is ∙ reverse-append rest (row ∷ []) in
      ap (λ (l : List Row). truncated limit (l ++ filter q (reverse rest))) added
      ∙ ap (truncated limit) (append_assoc found (filter q (row ∷ [])) (filter q (reverse rest)) ∙ ap (λ (l : List Row). found ++ l) (sym (first_tested q row (reverse rest)) ∙ ap (filter q) (sym turned)))
      ∙ h

  pub row_within : truncated limit new ≡ new
  row_within = ap (truncated limit) added ∙ room limit found (filter q (row ∷ [])) space (length_test q row) ∙ sym added

  pub row_counted : (before now most : ℕ) → before + length left ≤ most → now ≡ before + 1 → now + length rest ≤ most
  row_counted before now most counted step =
      let whole : length left ≡ length rest + 1 = ap length is ∙ length-append rest (row ∷ []) in
      omega (arith, whole, counted, step)

-- no row is left
pub rows_taken : (q : Row → Bool) (limit : Option ℕ) (found left : List Row) (all : List Row) → left ≡ [] → truncated limit found ≡ found → truncated limit (found ++ filter q (reverse left)) ≡ all → found ≡ all
rows_taken q limit found left all none within h = all_taken limit found all within (subst (λ (l : List Row). truncated limit (found ++ filter q (reverse l)) ≡ all) none h)

-- there are enough
pub enough_taken : (q : Row → Bool) (limit : Option ℕ) (found left : List Row) (all : List Row) → is_enough limit found ≡ true → truncated limit found ≡ found → truncated limit (found ++ filter q (reverse left)) ≡ all → found ≡ all
enough_taken q limit found left all most within h = sym (enough limit found (filter q (reverse left)) most within) ∙ h

pub test_keeps : (P : Row → Type 0) (q : Row → Bool) (row : Row) → P row → AllByRecursion P (filter q (row ∷ []))
test_keeps P q row p = by (q row)
  where
    by : (b : Bool) → AllByRecursion P (cond b (row ∷ []) [])
    by true = (p, tt)
    by false = tt

-- ---- directions

pub directed_len : (direction : Direction) (rows : List Row) → length (in_direction direction rows) ≡ length rows
directed_len Ascending rows = refl
directed_len Descending rows = length-reverse rows

pub reverse_keeps : (P : Row → Type 0) (rows : List Row) → AllByRecursion P rows → AllByRecursion P (reverse rows)
reverse_keeps P [] all = tt
reverse_keeps P (row ∷ rows) all =
    subst (AllByRecursion P) (sym (reverse-append (row ∷ []) rows)) (joined (reverse rows) (reverse_keeps P rows all.1))
  where
    joined : (xs : List Row) → AllByRecursion P xs → AllByRecursion P (xs ++ row ∷ [])
    joined [] each = (all.0, tt)
    joined (x ∷ xs) each = (each.0, joined xs each.1)

-- ---- the rows that are added of a day

directed_keeps : (P : Row → Type 0) (direction : Direction) (rows : List Row) → AllByRecursion P rows → AllByRecursion P (in_direction direction rows)
directed_keeps P Ascending rows all = all
directed_keeps P Descending rows all = reverse_keeps P rows all

truncated_keeps : (P : Row → Type 0) (limit : Option ℕ) (rows : List Row) → AllByRecursion P rows → AllByRecursion P (truncated limit rows)
truncated_keeps P None rows all = all
truncated_keeps P (Some n) rows all = all_first P n rows all

pub day_given : (P : Row → Type 0) (q : Row → Bool) (limit : Option ℕ) (direction : Direction) (found new rows turned : List Row) → reverse turned ≡ in_direction direction rows →
    new ≡ truncated limit (found ++ filter q (reverse turned)) → AllByRecursion P found → AllByRecursion P rows → AllByRecursion P new
day_given P q limit direction found new rows turned is added before day =
    let directed = subst (AllByRecursion P) (sym is) (directed_keeps P direction rows day) in
    let tested = each_tested P P q (λ row may met. may) (reverse turned) directed in
    subst (AllByRecursion P) (sym added) (truncated_keeps P limit (found ++ filter q (reverse turned)) (all_both P found (filter q (reverse turned)) before tested))

-- ---- a day

merged_in_order : (tables : List ℕ) (from to : ℤ) (history : List Row) → AreInKeyOrder (merged_between tables from to history)
merged_in_order tables from to history = order_sorted (flat_map (λ table. range_of table from to history) tables)

module _ (statement : TypedSelect) (left day rest : List Partition) (from to : ℤ) (front : ℕ) (rows turned : List Row)
    (days : (all : List Row) → AreInKeyOrder all → in_direction statement.direction (filter (is_of_parts left) all) ≡
    in_direction statement.direction (filter (is_of_parts day) all) ++ in_direction statement.direction (filter (is_of_parts rest) all)) where
  module _ (history : List Row) (got : rows ≡ sorted (rows_between_of statement.sources day from to history)) where
    day_is : rows ≡ filter (is_of_parts day) (merged_between statement.sources from to history)
    day_is = got ∙ merged_in_parts statement.sources day from to history

    -- what is selected of the days that are left is that of the day, and then that of the others
    pub day_first : reverse turned ≡ in_direction statement.direction rows →
        selected_between statement left from to history ≡ filter (is_selected statement.condition) (reverse turned) ++ selected_between statement rest from to history
    day_first back =
        let m = merged_between statement.sources from to history in
        let q = is_selected statement.condition in
        ap (filter q) (days m (merged_in_order statement.sources from to history))
        ∙ filter-append q (in_direction statement.direction (filter (is_of_parts day) m)) (in_direction statement.direction (filter (is_of_parts rest) m))
        ∙ ap (λ (l : List Row). filter q (in_direction statement.direction l) ++ selected_between statement rest from to history) (sym day_is)
        ∙ ap (λ (l : List Row). filter q l ++ selected_between statement rest from to history) (sym back)

    pub day_len : length (filter (is_of_parts left) (merged_between statement.sources from to history)) ≡ length rows + length (filter (is_of_parts rest) (merged_between statement.sources from to history))
    day_len =
        let m = merged_between statement.sources from to history in
        let direction = statement.direction in
        sym (directed_len direction (filter (is_of_parts left) m)) ∙ ap length (days m (merged_in_order statement.sources from to history))
        ∙ length-append (in_direction direction (filter (is_of_parts day) m)) (in_direction direction (filter (is_of_parts rest) m))
        ∙ ap (λ (n : ℕ). n + length (in_direction direction (filter (is_of_parts rest) m))) (directed_len direction (filter (is_of_parts day) m) ∙ ap length (sym day_is))
        ∙ ap (λ (n : ℕ). length rows + n) (directed_len direction (filter (is_of_parts rest) m))

  -- what is told once the day was gone through
  pub day_told : (told : Option (ℕ → List Row)) (found new : List Row) (parts : List Partition) →
      IfSome told (λ history. rows ≡ sorted (rows_between_of statement.sources day from to (history front))) → reverse turned ≡ in_direction statement.direction rows →
      new ≡ truncated statement.limit (found ++ filter (is_selected statement.condition) (reverse turned)) →
      IfSome told (λ history. truncated statement.limit (found ++ selected_between statement left from to (history front)) ≡ truncated statement.limit (selected_between statement parts from to (history front))) →
      IfSome told (λ history. truncated statement.limit (new ++ selected_between statement rest from to (history front)) ≡ truncated statement.limit (selected_between statement parts from to (history front)))
  day_told None found new parts got back added h = tt
  day_told (Some history) found new parts got back added h =
      let q = is_selected statement.condition in
      let first = history front in
      let all = truncated statement.limit (selected_between statement parts from to first) in
      next_rows statement.limit found new (filter q (reverse turned)) (selected_between statement rest from to first) all added
      (ap (λ (l : List Row). truncated statement.limit (found ++ l)) (sym (day_first first got back)) ∙ h)

  pub day_counted : (told : Option (ℕ → List Row)) (before now first : ℕ) (parts : List Partition) → IfSome told (λ history. rows ≡ sorted (rows_between_of statement.sources day from to (history front))) →
      length turned ≡ length rows → now ≤ before + length turned →
      IfSome told (λ history. before + length (filter (is_of_parts left) (merged_between statement.sources from to (history front))) ≤ first + length (filter (is_of_parts parts) (merged_between statement.sources from to (history front)))) →
      IfSome told (λ history. now + length (filter (is_of_parts rest) (merged_between statement.sources from to (history front))) ≤ first + length (filter (is_of_parts parts) (merged_between statement.sources from to (history front))))
  day_counted None before now first parts got same more h = tt
  day_counted (Some history) before now first parts got same more h =
      let len = day_len (history front) got in
      omega (arith, len, same, more, h)

-- the steps so far are no more than all
pub steps_within : (told : Option (ℕ → List Row)) (left all : (ℕ → List Row) → List Row) (before first : ℕ) → IfSome told (λ history. before + length (left history) ≤ first + length (all history)) → IfSome told (λ history. before ≤ first + length (all history))
steps_within None left all before first h = tt
steps_within (Some history) left all before first h = omega (arith, h)

-- ---- the end

pub none_left : (parts : List Partition) → (length parts == 0) ≡ true → parts ≡ []
none_left [] e = refl
none_left (partition ∷ parts) e = absurd (let none : length (partition ∷ parts) ≡ 0 = grind (arith, nat_tests) in omega (arith, none))

none_of_none : (rows : List Row) → AllByRecursion (λ row. is_of_parts [] row ≡ false) rows
none_of_none [] = tt
none_of_none (row ∷ rows) = (refl, none_of_none rows)

none_directed : (direction : Direction) → ◌≡◌ {A = List Row} (in_direction direction []) []
none_directed Ascending = refl
none_directed Descending = refl

pub nothing_left : (statement : TypedSelect) (from to : ℤ) (history : List Row) → selected_between statement [] from to history ≡ []
nothing_left statement from to history =
    let m = merged_between statement.sources from to history in
    ap (λ (l : List Row). filter (is_selected statement.condition) (in_direction statement.direction l)) (none_pass (is_of_parts []) m (none_of_none m))
    ∙ ap (filter (is_selected statement.condition)) (none_directed statement.direction)

-- all days were gone through, or there are enough
pub days_done : (told : Option (ℕ → List Row)) (statement : TypedSelect) (left parts : List Partition) (from to : ℤ) (front : ℕ) (found : List Row) → left ≡ [] → truncated statement.limit found ≡ found →
    IfSome told (λ history. truncated statement.limit (found ++ selected_between statement left from to (history front)) ≡ truncated statement.limit (selected_between statement parts from to (history front))) →
    IfSome told (λ history. found ≡ truncated statement.limit (selected_between statement parts from to (history front)))
days_done None statement left parts from to front found none within h = tt
days_done (Some history) statement left parts from to front found none within h =
    let first = history front in
    let nothing : selected_between statement left from to first ≡ [] = subst (λ (ps : List Partition). selected_between statement ps from to first ≡ []) (sym none) (nothing_left statement from to first) in
    all_taken statement.limit found (truncated statement.limit (selected_between statement parts from to first)) within (ap (λ (l : List Row). truncated statement.limit (found ++ l)) (sym nothing) ∙ h)

pub days_enough : (told : Option (ℕ → List Row)) (statement : TypedSelect) (left parts : List Partition) (from to : ℤ) (front : ℕ) (found : List Row) → is_enough statement.limit found ≡ true → truncated statement.limit found ≡ found →
    IfSome told (λ history. truncated statement.limit (found ++ selected_between statement left from to (history front)) ≡ truncated statement.limit (selected_between statement parts from to (history front))) →
    IfSome told (λ history. found ≡ truncated statement.limit (selected_between statement parts from to (history front)))
days_enough None statement left parts from to front found most within h = tt
days_enough (Some history) statement left parts from to front found most within h =
    sym (enough statement.limit found (selected_between statement left from to (history front)) most within) ∙ h

-- ---- the beginning

pub nothing_yet : (told : Option (ℕ → List Row)) (limit : Option ℕ) (all : (ℕ → List Row) → List Row) → IfSome told (λ history. truncated limit ([] ++ all history) ≡ truncated limit (all history))
nothing_yet None limit all = tt
nothing_yet (Some history) limit all = refl

pub no_steps : (told : Option (ℕ → List Row)) (first : ℕ) (all : (ℕ → List Row) → List Row) → IfSome told (λ history. first + length (all history) ≤ first + length (all history))
no_steps None first all = tt
no_steps (Some history) first all = omega arith
