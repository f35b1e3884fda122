-- Rows of partitions, and that those of an earlier day come before those of a later one.
use Rattle.std.proofs.Common.{◌≡◌, ℕ, zero, suc, ℤ, ◌+◌, ◌<◌, ◌<ℤ◌, ◌≤ℤ◌, List, length, get_or, take, drop, Bool, true, false, not, refl, sym, ◌∙◌, subst, arith}
use Rattle.std.specs.Prelude.{int_lt}
use Rattle.std.specs.List.{AllWithin}
use Rattle.std.specs.List.Sorted.{IsPartitionedBy, IsPartitionPoint}
use Rattle.std.proofs.lemmas.Int.{ints}
use Rattle.std.proofs.lemmas.List.{get_or-take, get_or-drop, length-take, length-drop}
use Rattle.std.proofs.lemmas.List.Folds.{Any-from_list_any}
use Rattle.arch_types.specs.declared.row.Row.{Row}
use Rattle.arch_types.specs.Order.{is_before}
use Rattle.time_text.specs.Day.{day_of}
use Rattle.partitions.specs.declared.partition.Partition.{Partition}
use Rattle.partitions.specs.Partitions.{AreRising}
use Rattle.partitions.specs.Rows.{is_of_partition, is_of_parts}
use Rattle.partitions.proofs.Parted.{its_day, earlier, day_rises}
use Rattle.replay_merge.specs.Fetch.{EndsDay}

pub before_by_time : (x y : Row) → x.key.time <ℤ y.key.time → is_before x y ≡ true
before_by_time x y less = let e : int_lt x.key.time y.key.time ≡ true = grind (arith, ints) in rw e refl

in_front : (parts : List Partition) (n : ℕ) (P : Partition → Type 0) → AllWithin P parts 0 n → (row : Row) → is_of_parts (take n parts) row ≡ true →
    (partition : Partition) × (is_of_partition partition row ≡ true) × P partition
in_front parts n P all row is =
    let any = Any-from_list_any (λ partition. is_of_partition partition row) (take n parts) is in
    let within : any.0 < n = omega (arith, any.2, length-take n parts) in
    let at : get_or parts any.0 any.1 ≡ any.1 = sym (get_or-take n parts any.0 any.1 within) ∙ any.3 in
    (any.1, any.4, subst P at (all any.0 any.1 (omega arith) within))

in_rest : (parts : List Partition) (n : ℕ) (P : Partition → Type 0) → AllWithin P parts n (length parts) → (row : Row) → is_of_parts (drop n parts) row ≡ true →
    (partition : Partition) × (is_of_partition partition row ≡ true) × P partition
in_rest parts n P all row is =
    let any = Any-from_list_any (λ partition. is_of_partition partition row) (drop n parts) is in
    let within : n + any.0 < length parts = omega (arith, any.2, length-drop n parts) in
    let at : get_or parts (n + any.0) any.1 ≡ any.1 = sym (get_or-drop n parts any.0 any.1) ∙ any.3 in
    (any.1, any.4, subst P at (all (n + any.0) any.1 (omega arith) within))

-- rows of the first days come before rows of the others
pub days_in_order : (parts : List Partition) (n : ℕ) → EndsDay parts n → (x y : Row) → is_of_parts (take n parts) x ≡ true → is_of_parts (drop n parts) y ≡ true → is_before x y ≡ true
days_in_order parts n ends x y first later =
    let a = in_front parts n (λ (partition : Partition). partition.day ≤ℤ ends.0) ends.1.0 x first in
    let b = in_rest parts n (λ (partition : Partition). ends.0 <ℤ partition.day) ends.1.1 y later in
    let day_x = its_day a.0 x a.1 in
    let day_y = its_day b.0 y b.1 in
    let low = a.2 in
    let high = b.2 in
    let less : day_of x.key.time <ℤ day_of y.key.time = rw (← day_x, ← day_y) (omega (arith, ints)) in
    before_by_time x y (earlier x.key.time y.key.time less)

-- ---- the first day of partitions

no_later_day : (day other : ℤ) → not (int_lt day other) ≡ true → other ≤ℤ day
no_later_day day other e = grind (arith, ints)

not_later : (day other : ℤ) → other ≤ℤ day → not (int_lt day other) ≡ true
not_later day other le = grind (arith, ints)

later_day : (day other : ℤ) → not (int_lt day other) ≡ false → day <ℤ other
later_day day other e = grind (arith, ints)

not_itself : (day : ℤ) → not (int_lt day day) ≡ false → ⊥
not_itself day e = let less = later_day day day e in omega (arith, ints)

-- whether a partition's day is no later
abbrev pub is_upto : ℤ → Partition → Bool
is_upto day partition = not (int_lt day partition.day)

pub first_parted : (parts : List Partition) (day : ℤ) → AreRising parts → IsPartitionedBy (is_upto day) parts
first_parted parts day rising i j d le h test =
    let rises = day_rises parts rising i j d le h in
    let upto = no_later_day day (get_or parts j d).day test in
    not_later day (get_or parts i d).day (omega (arith, ints, rises, upto))

pub ends_day : (parts : List Partition) (day : ℤ) (n : ℕ) → IsPartitionPoint (λ partition. is_upto day partition ≡ true) (λ partition. is_upto day partition ≡ false) parts n → EndsDay parts n
ends_day parts day n point = (day, (λ k d low high. no_later_day day (get_or parts k d).day (point.0 k d low high), λ k d low high. later_day day (get_or parts k d).day (point.1 k d low high)))

pub some_first : (parts : List Partition) (d : Partition) (n : ℕ) → 0 < length parts → AllWithin (λ partition. is_upto (get_or parts 0 d).day partition ≡ false) parts n (length parts) → 0 < n
some_first parts d zero some all = absurd (not_itself (get_or parts 0 d).day (all 0 d (omega arith) some))
some_first parts d (suc n) some all = omega arith
