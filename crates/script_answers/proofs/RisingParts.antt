-- Partitions that rise are known by which they are.
use Rattle.std.proofs.Common.{◌≡◌, ◌⊎◌, inl, inr, ℕ, zero, suc, List, [], ◌∷◌, refl, sym, ap, ◌∙◌, subst, arith}
use Rattle.std.specs.Prelude.{Contains}
use Rattle.std.specs.List.{AllByRecursion}
use Rattle.std.specs.List.Sorted.{IsStrictlySortedBy}
use Rattle.std.specs.Cmp.{tied_itself}
use Rattle.std.specs.Ordering.{ordering_reverse}
use Rattle.std.specs.declared.cmp.Ordering.{Ordering}
use Rattle.std.specs.declared.cmp.Ordering.TheVariants.{Less, Equal, Greater}
use Rattle.std.proofs.lemmas.Int.{ints}
use Rattle.text_forms.specs.ClockTime.{IsClockTime}
use Rattle.arch_types.specs.declared.row.Row.{Row}
use Rattle.arch_types.specs.History.{is_in_table}
use Rattle.partitions.specs.declared.partition.Partition.{Partition}
use Rattle.partitions.specs.Bounds.{MayHold}
use Rattle.partitions.specs.Partition.{partition_cmp, partition_of}
use Rattle.partitions.specs.Partitions.{AreRising}
use Rattle.partitions.specs.Rows.{partitions_of}
use Rattle.partitions.proofs.Order.{exact_partitions, partition_cmp_total}
use Rattle.replay_merge.proofs.Sources.{each_tested}
use Rattle.ssql_conditions.specs.ConditionBounds.{all_bounds}
use Rattle.history_items.specs.declared.items.Item.{Item}
use Rattle.history_items.specs.Items.{rows_in}
use Rattle.archive_history.specs.History.{rows_in_table}
use Rattle.archive_store.specs.Replays.{ArePartitions}
use Rattle.script_answers.specs.Statements.{parts_of_rows, placed_by, with_partition}

-- ---- which partitions a list has

abbrev IsAmongParts : Partition → List Partition → Type 0
IsAmongParts partition [] = ⊥
IsAmongParts partition (first ∷ rest) = (first ≡ partition) ⊎ IsAmongParts partition rest

among : (parts : List Partition) (partition : Partition) → Contains parts partition → IsAmongParts partition parts
among [] partition (k, below, is) = absurd (omega (arith, below))
among (first ∷ rest) partition (zero, below, is) = inl is
among (first ∷ rest) partition (suc k, below, is) = inr (among rest partition (k, omega (arith, below), is))

contained : (parts : List Partition) (partition : Partition) → IsAmongParts partition parts → Contains parts partition
contained [] partition is = absurd is
contained (first ∷ rest) partition (inl is) = (0, omega arith, is)
contained (first ∷ rest) partition (inr more) = let at = contained rest partition more in (suc at.0, omega (arith, at.1), at.2)

each_of : (P : Partition → Type 0) (parts : List Partition) (partition : Partition) → AllByRecursion P parts → IsAmongParts partition parts → P partition
each_of P [] partition all is = absurd is
each_of P (first ∷ rest) partition all (inl is) = subst P is all.0
each_of P (first ∷ rest) partition all (inr more) = each_of P rest partition all.1 more

of_each : (P : Partition → Type 0) (parts : List Partition) → ((partition : Partition) → IsAmongParts partition parts → P partition) → AllByRecursion P parts
of_each P [] all = tt
of_each P (first ∷ rest) all = (all first (inl refl), of_each P rest (λ partition is. all partition (inr is)))

-- ---- two lists of the same

-- neither of two comes before the other and behind it
not_both : (a b : Partition) → partition_cmp a b ≡ Less → partition_cmp b a ≡ Less → ⊥
not_both a b less more = let same : Less ≡ Equal = sym (partition_cmp_total.trans a b a less more) ∙ tied_itself partition_cmp_total a in absurd (cc (same))

heads : (x y : Partition) (xs ys : List Partition) → AllByRecursion (λ z. partition_cmp x z ≡ Less) xs → AllByRecursion (λ z. partition_cmp y z ≡ Less) ys →
    IsAmongParts x (y ∷ ys) → IsAmongParts y (x ∷ xs) → x ≡ y
heads x y xs ys above below (inl is) there = sym is
heads x y xs ys above below (inr here) (inl is) = is
heads x y xs ys above below (inr here) (inr there) = absurd (not_both x y (each_of (λ z. partition_cmp x z ≡ Less) xs y above there) (each_of (λ z. partition_cmp y z ≡ Less) ys x below here))

behind_head : (x partition : Partition) (xs ys : List Partition) → AllByRecursion (λ z. partition_cmp x z ≡ Less) xs → IsAmongParts partition xs → IsAmongParts partition (x ∷ ys) → IsAmongParts partition ys
behind_head x partition xs ys above is (inr there) = there
behind_head x partition xs ys above is (inl same) = let own = subst (λ (z : Partition). partition_cmp x z ≡ Less) (sym same) (each_of (λ z. partition_cmp x z ≡ Less) xs partition above is) in absurd (not_both x x own own)

pub same_rising : (xs ys : List Partition) → AreRising xs → AreRising ys → ((partition : Partition) → IsAmongParts partition xs → IsAmongParts partition ys) → ((partition : Partition) → IsAmongParts partition ys → IsAmongParts partition xs) → xs ≡ ys
unfolding IsStrictlySortedBy
same_rising [] [] a b to from = refl
same_rising [] (y ∷ ys) a b to from = absurd (from y (inl refl))
same_rising (x ∷ xs) [] a b to from = absurd (to x (inl refl))
same_rising (x ∷ xs) (y ∷ ys) a b to from =
    let same : x ≡ y = heads x y xs ys a.0 b.0 (to x (inl refl)) (from y (inl refl)) in
    let tails : xs ≡ ys = same_rising xs ys a.1 b.1
    (λ partition is. behind_head x partition xs ys a.0 is (subst (λ (z : Partition). IsAmongParts partition (z ∷ ys)) (sym same) (to partition (inr is))))
    (λ partition is. behind_head y partition ys xs b.0 is (subst (λ (z : Partition). IsAmongParts partition (z ∷ xs)) same (from partition (inr is)))) in
    ap (λ (z : Partition). z ∷ xs) same ∙ ap (λ (l : List Partition). y ∷ l) tails

-- ---- the partitions of rows

before_all : (p q : Partition) (parts : List Partition) → partition_cmp p q ≡ Less → AllByRecursion (λ z. partition_cmp q z ≡ Less) parts → AllByRecursion (λ z. partition_cmp p z ≡ Less) parts
before_all p q [] less all = tt
before_all p q (z ∷ parts) less all = (partition_cmp_total.trans p q z less all.0, before_all p q parts less all.1)

with_either : (p : Partition) (parts : List Partition) (partition : Partition) → IsAmongParts partition (with_partition p parts) → (p ≡ partition) ⊎ IsAmongParts partition parts
with_either p [] partition is = is
with_either p (q ∷ parts) partition is = by (partition_cmp p q) (with_either p parts partition) is
  where
    by : (r : Ordering) → (IsAmongParts partition (with_partition p parts) → (p ≡ partition) ⊎ IsAmongParts partition parts) → IsAmongParts partition (placed_by r p q parts (with_partition p parts)) → (p ≡ partition) ⊎ IsAmongParts partition (q ∷ parts)
    by Less again is = is
    by Equal again is = inr is
    by Greater again (inl is) = inr (inl is)
    by Greater again (inr is) = elim (again is) [ inl own ↦ inl own | inr there ↦ inr (inr there) ]

either_with : (p : Partition) (parts : List Partition) (partition : Partition) → (p ≡ partition) ⊎ IsAmongParts partition parts → IsAmongParts partition (with_partition p parts)
either_with p [] partition is = is
either_with p (q ∷ parts) partition is = by (partition_cmp p q) refl (either_with p parts partition) is
  where
    by : (r : Ordering) → partition_cmp p q ≡ r → ((p ≡ partition) ⊎ IsAmongParts partition parts → IsAmongParts partition (with_partition p parts)) → (p ≡ partition) ⊎ IsAmongParts partition (q ∷ parts) → IsAmongParts partition (placed_by r p q parts (with_partition p parts))
    by Less e again is = is
    by Equal e again (inl own) = inl (sym (exact_partitions p q e) ∙ own)
    by Equal e again (inr there) = there
    by Greater e again (inl own) = inr (again (inl own))
    by Greater e again (inr (inl is)) = inl is
    by Greater e again (inr (inr there)) = inr (again (inr there))

rising_with : (p : Partition) (parts : List Partition) → AreRising parts → AreRising (with_partition p parts)
unfolding IsStrictlySortedBy
rising_with p [] rising = (tt, tt)
rising_with p (q ∷ parts) rising = by (partition_cmp p q) refl (rising_with p parts rising.1)
  where
    by : (r : Ordering) → partition_cmp p q ≡ r → AreRising (with_partition p parts) → AreRising (placed_by r p q parts (with_partition p parts))
    by Less e again = ((e, before_all p q parts e rising.0), rising)
    by Equal e again = rising
    by Greater e again = (of_each (λ z. partition_cmp q z ≡ Less) (with_partition p parts) above, again)
      where
        above : (partition : Partition) → IsAmongParts partition (with_partition p parts) → partition_cmp q partition ≡ Less
        above partition is = elim (with_either p parts partition is) [
          | inl own ↦ subst (λ (z : Partition). partition_cmp q z ≡ Less) own (partition_cmp_total.antisymm q p ∙ ap ordering_reverse e)
          | inr there ↦ each_of (λ z. partition_cmp q z ≡ Less) parts partition rising.0 there
        ]

rising_of_rows : (rows : List Row) → AreRising (parts_of_rows rows)
unfolding IsStrictlySortedBy
rising_of_rows [] = tt
rising_of_rows (row ∷ rows) = rising_with (partition_of row.key.time row.pname) (parts_of_rows rows) (rising_of_rows rows)

to_rows : (rows : List Row) (partition : Partition) → IsAmongParts partition (partitions_of rows) → IsAmongParts partition (parts_of_rows rows)
to_rows [] partition is = absurd is
to_rows (row ∷ rows) partition (inl own) = either_with (partition_of row.key.time row.pname) (parts_of_rows rows) partition (inl own)
to_rows (row ∷ rows) partition (inr there) = either_with (partition_of row.key.time row.pname) (parts_of_rows rows) partition (inr (to_rows rows partition there))

from_rows : (rows : List Row) (partition : Partition) → IsAmongParts partition (parts_of_rows rows) → IsAmongParts partition (partitions_of rows)
from_rows [] partition is = absurd is
from_rows (row ∷ rows) partition is = elim (with_either (partition_of row.key.time row.pname) (parts_of_rows rows) partition is) [ inl own ↦ inl own | inr there ↦ inr (from_rows rows partition there) ]

-- each may hold a row of the clock's range
may_hold : (rows : List Row) → AllByRecursion (λ row. IsClockTime row.key.time) rows → (partition : Partition) → IsAmongParts partition (partitions_of rows) → MayHold all_bounds partition
may_hold [] clocks partition is = absurd is
may_hold (row ∷ rows) clocks partition (inl own) =
    subst (MayHold all_bounds) own (record { day = (row.key.time, clocks.0.0, omega (arith, ints, clocks.0.1), refl); name = tt })
may_hold (row ∷ rows) clocks partition (inr there) = may_hold rows clocks.1 partition there

-- those that a store gives for all times are those of the rows of the table
pub parts_are : (history : List Item) (table : ℕ) (parts : List Partition) → AllByRecursion (λ row. IsClockTime row.key.time) (rows_in history) → ArePartitions history table all_bounds parts →
    parts ≡ parts_of_rows (rows_in_table table history)
parts_are history table parts all are =
    let rows = rows_in_table table history in
    let clocks : AllByRecursion (λ (row : Row). IsClockTime row.key.time) rows = each_tested (λ (row : Row). IsClockTime row.key.time) (λ (row : Row). IsClockTime row.key.time) (is_in_table table) (λ row is e. is) (rows_in history) all in
    same_rising parts (parts_of_rows rows) are.rising (rising_of_rows rows)
    (λ partition is. to_rows rows partition (among (partitions_of rows) partition ((are.exactly partition).0 (contained parts partition is)).0))
    (λ partition is. let noted = from_rows rows partition is in among parts partition ((are.exactly partition).1 (contained (partitions_of rows) partition noted, may_hold rows clocks partition noted)))
