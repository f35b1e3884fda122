-- A range cut to the days of partitions.
use Rattle.std.proofs.Common.{◌≡◌, ℕ, ℤ, pos, ◌-◌, ◌<◌, ◌<ℤ◌, ◌≤ℤ◌, ◌+ℤ◌, ◌*ℤ◌, List, [], ◌∷◌, length, get_or, Option, Some, None, refl, Bool, true, false, sym, ◌∙◌, ap, arith}
use Rattle.std.specs.Prelude.{filter, int_lt, IfSome}
use Rattle.std.specs.List.{AllByRecursion}
use Rattle.std.proofs.lemmas.Int.{ints}
use Rattle.std.proofs.lemmas.List.Folds.{Any-from_list_any}
use Rattle.arch_types.specs.declared.row.Row.{Row}
use Rattle.arch_types.specs.Table.{is_in_time_range, table_of}
use Rattle.time_text.specs.Day.{day_of}
use Rattle.time_text.proofs.DayFacts.{on_its_day}
use Rattle.partitions.specs.declared.partition.Partition.{Partition}
use Rattle.partitions.specs.Partitions.{AreRising}
use Rattle.partitions.specs.Rows.{is_of_partition, is_of_parts}
use Rattle.partitions.proofs.Parted.{its_day, day_rises, default_free}
use Rattle.replay_merge.specs.RowSource.{IsRowBetween, range_of_parts}

same_below : (time from low : ℤ) → from ≤ℤ low → (from ≤ℤ time → low ≤ℤ time) → int_lt time low ≡ int_lt time from
same_below time from low le least = by (int_lt time from) refl
  where
    by : (b : Bool) → int_lt time from ≡ b → int_lt time low ≡ b
    by true e = let less : time <ℤ from = grind (arith, ints) in grind (arith, ints)
    by false e = let not_less : from ≤ℤ time = grind (arith, ints) in let up : low ≤ℤ time = least not_less in grind (arith, ints)

same_above : (time to high : ℤ) → high ≤ℤ to → (time <ℤ to → time <ℤ high) → int_lt time high ≡ int_lt time to
same_above time to high le greatest = by (int_lt time to) refl
  where
    by : (b : Bool) → int_lt time to ≡ b → int_lt time high ≡ b
    by true e = let less : time <ℤ to = grind (arith, ints) in let up : time <ℤ high = greatest less in grind (arith, ints)
    by false e = let not_less : to ≤ℤ time = grind (arith, ints) in grind (arith, ints)

pub cut_same : (parts : List Partition) (d : Partition) (from to low high : ℤ) → AreRising parts →
    (from ≤ℤ low) → ((time : ℤ) → from ≤ℤ time → (pos 86_400_000 *ℤ (get_or parts 0 d).day) ≤ℤ time → low ≤ℤ time) →
    (high ≤ℤ to) → ((time : ℤ) → time <ℤ to → time <ℤ (pos 86_400_000 *ℤ ((get_or parts (length parts - 1) d).day +ℤ pos 1)) → time <ℤ high) →
    (row : Row) → is_of_parts parts row ≡ true → is_in_time_range low high row ≡ is_in_time_range from to row
cut_same parts d from to low high rising up least down greatest row is =
    let any = Any-from_list_any (λ partition. is_of_partition partition row) parts is in
    let k = any.0 in
    let time = row.key.time in
    let within : k < length parts = any.2 in
    let at : get_or parts k d ≡ any.1 = default_free parts k d any.1 within ∙ any.3 in
    let day : (get_or parts k d).day ≡ day_of time = ap (λ (p : Partition). p.day) at ∙ its_day any.1 row any.4 in
    let since = day_rises parts rising 0 k d (omega arith) within in
    let until = day_rises parts rising k (length parts - 1) d (omega (arith, within)) (omega (arith, within)) in
    let on = on_its_day time in
    let start : (pos 86_400_000 *ℤ (get_or parts 0 d).day) ≤ℤ time = omega (arith, ints, on.0, since, day) in
    let end : time <ℤ (pos 86_400_000 *ℤ ((get_or parts (length parts - 1) d).day +ℤ pos 1)) = omega (arith, ints, on.1, until, day) in
    let a = same_below time from low up (λ le. least time le start) in
    let b = same_above time to high down (λ less. greatest time less end) in
    rw (a, b) refl

-- ---- rows of the partitions in the cut range

module _ (p q r : Row → Bool) (same : (x : Row) → p x ≡ true → q x ≡ r x) where
  under_cases : (x : Row) (xs : List Row) (a b : Bool) → p x ≡ a → r x ≡ b → filter p (filter q xs) ≡ filter p (filter r xs) → filter p (filter q (x ∷ xs)) ≡ filter p (filter r (x ∷ xs))
  under_cases x xs true true ea eb rest = let eq : q x ≡ true = same x ea ∙ eb in rw (eq, eb, ea) (ap (λ (w : List Row). x ∷ w) rest)
  under_cases x xs true false ea eb rest = let eq : q x ≡ false = same x ea ∙ eb in rw (eq, eb) rest
  under_cases x xs false b ea eb rest = sym (gone q (q x) refl) ∙ rest ∙ gone r (r x) refl
    where
      gone : (t : Row → Bool) (v : Bool) → t x ≡ v → filter p (filter t xs) ≡ filter p (filter t (x ∷ xs))
      gone t true e = rw (e, ea) refl
      gone t false e = rw e refl

  pub filter_under : (xs : List Row) → filter p (filter q xs) ≡ filter p (filter r xs)
  filter_under [] = refl
  filter_under (x ∷ xs) = under_cases x xs (p x) (r x) refl refl (filter_under xs)

pub each_cut : (table : ℕ) (parts : List Partition) (low high from to : ℤ) → ((row : Row) → is_of_parts parts row ≡ true → is_in_time_range low high row ≡ is_in_time_range from to row) → (rows : List Row) →
    AllByRecursion (IsRowBetween table parts low high) rows → AllByRecursion (IsRowBetween table parts from to) rows
each_cut table parts low high from to same [] all = tt
each_cut table parts low high from to same (row ∷ rows) all = (
  record { keyed = all.0.keyed; in_table = all.0.in_table; in_parts = all.0.in_parts; in_range = sym (same row all.0.in_parts) ∙ all.0.in_range },
  each_cut table parts low high from to same rows all.1,
)

pub told_cut : (told : Option (ℕ → List Row)) (front table : ℕ) (parts : List Partition) (low high from to : ℤ) → ((row : Row) → is_of_parts parts row ≡ true → is_in_time_range low high row ≡ is_in_time_range from to row) →
    (rows : List Row) → IfSome told (λ history. rows ≡ range_of_parts table parts low high (history front)) → IfSome told (λ history. rows ≡ range_of_parts table parts from to (history front))
told_cut None front table parts low high from to same rows got = tt
told_cut (Some history) front table parts low high from to same rows got =
    got ∙ filter_under (is_of_parts parts) (is_in_time_range low high) (is_in_time_range from to) same (table_of table (history front))
