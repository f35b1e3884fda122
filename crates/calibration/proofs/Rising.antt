-- Points that rise.
use Rattle.std.proofs.Common.{◌≡◌, ◌<◌, ◌≤◌, ℕ, zero, suc, List, [], ◌∷◌, length, get_or, true, false, arith}
use Rattle.std.specs.Prelude.{ℤ, ◌≤ℤ◌, ◌<ℤ◌, int_le, int_lt}
use Rattle.std.specs.List.Sorted.{IsPartitionedBy}
use Rattle.std.specs.Int.Signed.{le_z_yes, lt_z_yes}
use Rattle.std.proofs.lemmas.Float.{T_from_true}
use Rattle.std.proofs.lemmas.Int.{ints}
use Rattle.std.proofs.lemmas.List.Elements.{All-from_recursion}
use Rattle.mdb_items.specs.declared.calibration.PointsRow.{PointsRow}
use Rattle.mdb_items.specs.Structure.{ArePointsRising}

pub le_true : (a b : ℤ) → int_le a b ≡ true → a ≤ℤ b
le_true a b is = le_z_yes (T_from_true (int_le a b) is)

pub lt_true : (a b : ℤ) → int_lt a b ≡ true → a <ℤ b
lt_true a b is = lt_z_yes (T_from_true (int_lt a b) is)

pub true_le : (a b : ℤ) → a ≤ℤ b → int_le a b ≡ true
true_le a b le = grind (arith, ints)

pub above : (a b : ℤ) → int_le a b ≡ false → b <ℤ a
above a b isnt = grind (arith, ints)

parted_at : (points : List PointsRow) (raw : ℤ) (i j : ℕ) (d : PointsRow) → ArePointsRising points → i ≤ j → j < length points → int_le (get_or points j d).x raw ≡ true → int_le (get_or points i d).x raw ≡ true
parted_at [] raw i j d rising le lt is = absurd (omega arith)
parted_at (p ∷ points) raw zero zero d rising le lt is = is
parted_at (p ∷ points) raw zero (suc j) d rising le lt is =
    let later : p.x <ℤ (get_or points j d).x = All-from_recursion (λ (q : PointsRow). p.x <ℤ q.x) points rising.0 j d (omega arith) in
    let here : (get_or points j d).x ≤ℤ raw = le_true (get_or points j d).x raw is in
    true_le p.x raw (omega (arith, ints))
parted_at (p ∷ points) raw (suc i) zero d rising le lt is = absurd (omega arith)
parted_at (p ∷ points) raw (suc i) (suc j) d rising le lt is = parted_at points raw i j d rising.1 (omega arith) (omega arith) is

-- where a later point is at or below the raw number, an earlier one is
pub parted : (points : List PointsRow) (raw : ℤ) → ArePointsRising points → IsPartitionedBy (λ (p : PointsRow). int_le p.x raw) points
parted points raw rising = λ i j d le lt is. parted_at points raw i j d rising le lt is
