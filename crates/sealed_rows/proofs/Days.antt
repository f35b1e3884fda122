-- The rows of a partition among those of its day.
use Rattle.std.proofs.Common.{◌≡◌, ℤ, pos, ◌<ℤ◌, ◌≤ℤ◌, ◌+ℤ◌, ◌*ℤ◌, Bool, true, false, List, [], ◌∷◌, refl, sym, ap, subst, cond, arith}
use Rattle.std.specs.Prelude.{◌||◌, ◌&&◌, filter, int_lt, not}
use Rattle.std.specs.List.Sorted.{IsStrictlySortedBy}
use Rattle.std.proofs.lemmas.Int.{ints}
use Rattle.std.proofs.lemmas.List.Elements.{filter_agree}
use Rattle.arch_types.specs.declared.row.Row.{Row}
use Rattle.arch_types.specs.Table.{is_in_time_range}
use Rattle.partitions.specs.declared.partition.Partition.{Partition}
use Rattle.partitions.specs.Partitions.{AreRising}
use Rattle.partitions.specs.Rows.{is_of_partition, is_of_parts}
use Rattle.partitions.proofs.Parted.{its_partition}
use Rattle.time_text.specs.Day.{day_of}
use Rattle.time_text.proofs.DayFacts.{on_its_day}

-- a time is on its day
pub on_day : (row : Row) (day from to : ℤ) → from ≡ (day *ℤ pos 86_400_000) → to ≡ (from +ℤ pos 86_400_000) → day_of row.key.time ≡ day → is_in_time_range from to row ≡ true
on_day row day from to from_is to_is is =
    let within = subst (λ (d : ℤ). ((pos 86_400_000 *ℤ d) ≤ℤ row.key.time) × (row.key.time <ℤ (pos 86_400_000 *ℤ (d +ℤ pos 1)))) is (on_its_day row.key.time) in
    in_range row.key.time from to (omega (arith, ints, from_is, within.0)) (omega (arith, ints, from_is, to_is, within.1))
  where
    in_range : (time low high : ℤ) → low ≤ℤ time → time <ℤ high → (not (int_lt time low) && int_lt time high) ≡ true
    in_range time low high le lt = grind (arith, ints, le, lt)

-- one partition rises
pub one_rises : (partition : Partition) → AreRising (partition ∷ [])
unfolding IsStrictlySortedBy
one_rises partition = (tt, tt)

-- a test that only what passed another passes
pub filter_within : (p q : Row → Bool) → ((row : Row) → q row ≡ true → p row ≡ true) → (rows : List Row) → filter q (filter p rows) ≡ filter q rows
filter_within p q within [] = refl
filter_within p q within (row ∷ rows) = by (p row) (q row) refl refl (filter_within p q within rows)
  where
    by : (a b : Bool) → p row ≡ a → q row ≡ b → filter q (filter p rows) ≡ filter q rows → filter q (cond a (row ∷ filter p rows) (filter p rows)) ≡ cond b (row ∷ filter q rows) (filter q rows)
    by true true ea eb later = rw eb (ap (λ (l : List Row). row ∷ l) later)
    by true false ea eb later = rw eb later
    by false true ea eb later = let had = within row eb in absurd (cc (ea, had))
    by false false ea eb later = later

or_false : (b : Bool) → (b || false) ≡ b
or_false true = refl
or_false false = refl

-- the rows of one partition
pub of_one : (partition : Partition) (rows : List Row) → filter (is_of_parts (partition ∷ [])) rows ≡ filter (is_of_partition partition) rows
of_one partition rows = filter_agree (is_of_parts (partition ∷ [])) (is_of_partition partition) (λ row. or_false (is_of_partition partition row)) rows

pub its_day : (partition : Partition) (row : Row) → is_of_partition partition row ≡ true → day_of row.key.time ≡ partition.day
its_day partition row is = sym (ap (λ (p : Partition). p.day) (its_partition partition row is))
