-- The lines of SHOW PARTITIONS.
use Rattle.std.proofs.Common.{◌≡◌, ℕ, suc, ◌+◌, ◌<◌, List, [], ◌∷◌, ◌++◌, length, get_or, take, Option, Some, None, ℤ, pos, ◌≤ℤ◌, sym, ap, subst, ◌∙◌, append-nil, arith}
use Rattle.std.specs.Prelude.{flat_map, IfSome}
use Rattle.std.proofs.Math.Seq.{take-suc}
use Rattle.std.proofs.lemmas.Grind.{flat_map-append}
use Rattle.std.proofs.lemmas.Int.{ints}
use Rattle.text_forms.specs.ClockTime.{IsClockTime}
use Rattle.time_text.specs.Day.{day_of}
use Rattle.time_text.specs.Spelling.{day_name_of}
use Rattle.time_text.proofs.DayFacts.{on_its_day}
use Rattle.arch_types.specs.declared.row.Row.{Row}
use Rattle.partitions.specs.declared.partition.Partition.{Partition}
use Rattle.partitions.proofs.Parted.{its_day}
use Rattle.replay_merge.specs.RowSource.{AreRowsOf, IsKeyedRow, rows_of_partition}
use Rattle.ssql_select.specs.declared.show.ShowLine.{ShowLine}
use Rattle.ssql_select.specs.declared.show.ShowLine.TheVariants as l
use Rattle.ssql_select.specs.ShowText.{line_of_rows, partition_line, partition_lines}

-- the day of a moment of the clock has a name
pub clock_day : (time : ℤ) → IsClockTime time → (pos 0 ≤ℤ day_of time) × (day_of time ≤ℤ pos 2932896)
clock_day time is = let on = on_its_day time in (omega (arith, ints, is.0, on.1), omega (arith, ints, is.1, on.0))

-- the first row is keyed
pub first_keyed : (table : ℕ) (partition : Partition) (rows : List Row) (row : Row) → 0 < length rows → row ≡ get_or rows 0 row → AreRowsOf table partition rows → IsKeyedRow row
first_keyed table partition [] row some is are = absurd (omega (arith, some))
first_keyed table partition (first ∷ rows) row some is are = subst IsKeyedRow (sym is) are.each.0.keyed

-- and its day is the partition's
pub line_is : (table : ℕ) (partition : Partition) (rows : List Row) (row : Row) → 0 < length rows → row ≡ get_or rows 0 row → AreRowsOf table partition rows →
    l.Partition (day_name_of (day_of row.key.time)) partition.pname (length rows) ∷ [] ≡ line_of_rows partition rows
line_is table partition [] row some is are = absurd (omega (arith, some))
line_is table partition (first ∷ rows) row some is are =
    ap (λ (r : Row). l.Partition (day_name_of (day_of r.key.time)) partition.pname (length (first ∷ rows)) ∷ []) is
    ∙ ap (λ (day : ℤ). l.Partition (day_name_of day) partition.pname (length (first ∷ rows)) ∷ []) (sym (its_day partition first are.each.0.in_partition))

-- ---- one more

pub flat_next : {A B : Type 0} (f : A → List B) (xs : List A) (i : ℕ) (x : A) → i < length xs → x ≡ get_or xs i x → flat_map f (take i xs) ++ f x ≡ flat_map f (take (i + 1) xs)
flat_next {A} {B} f xs i x within is =
    let next : i + 1 ≡ suc i = omega arith in
    ap (λ (more : List B). flat_map f (take i xs) ++ more) (sym (append-nil (f x)))
    ∙ sym (flat_map-append f (take i xs) (x ∷ []))
    ∙ ap (λ (y : A). flat_map f (take i xs ++ y ∷ [])) is
    ∙ ap (flat_map f) (sym (take-suc xs i x within))
    ∙ ap (λ (n : ℕ). flat_map f (take n xs)) (sym next)

pub one_part_more : (front table : ℕ) (told : Option (ℕ → List Row)) (parts : List Partition) (i : ℕ) (partition : Partition) (lines : List ShowLine) (rows : List Row) (all : List ShowLine) →
    i < length parts → partition ≡ get_or parts i partition → IfSome told (λ history. lines ≡ partition_lines table (history front) (take i parts)) →
    IfSome told (λ history. rows ≡ rows_of_partition table partition (history front)) → all ≡ lines ++ line_of_rows partition rows → IfSome told (λ history. all ≡ partition_lines table (history front) (take (i + 1) parts))
one_part_more front table None parts i partition lines rows all within is so_far got put = tt
one_part_more front table (Some history) parts i partition lines rows all within is so_far got put =
    put ∙ ap (λ (r : List Row). lines ++ line_of_rows partition r) got ∙ ap (λ (k : List ShowLine). k ++ partition_line table (history front) partition) so_far
    ∙ flat_next (partition_line table (history front)) parts i partition within is
