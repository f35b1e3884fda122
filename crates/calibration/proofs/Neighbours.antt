-- The points next to a raw number.
use Rattle.std.proofs.Common.{◌≡◌, ◌∙◌, ◌-◌, ◌<◌, ◌≤◌, ℕ, List, length, get_or, take, Option, Some, None, true, false, refl, ap, sym, arith, length-take, subst}
use Rattle.std.specs.Prelude.{slice_get, ℤ, pos, int_le}
use Rattle.std.specs.List.{AllByRecursion}
use Rattle.std.specs.List.Sorted.{IsPartitionPoint}
use Rattle.std.proofs.lemmas.List.{get_or-take}
use Rattle.std.proofs.lemmas.List.Elements.{All-from_recursion}
use Rattle.std.proofs.lemmas.List.Sums.{prefix_len_is}
use Rattle.std.proofs.lemmas.Option.{get_or_from_slice_get, slice_get_within}
use Rattle.mdb_items.specs.declared.calibration.PointsRow.{PointsRow}
use Rattle.mdb_items.specs.Lists.{last_of}
use Rattle.mdb_items.specs.Structure.{IsPoint}
use Rattle.calibration.specs.Calibrated.{between_points, on_points, reached}
use Rattle.calibration.specs.Carried.{AreNeighbours}
use Rattle.calibration.proofs.Rising.{above, le_true}

-- the point at or below the raw number
abbrev Below : ℤ → PointsRow → Type 0
Below raw p = int_le p.x raw ≡ true

abbrev Above : ℤ → PointsRow → Type 0
Above raw p = int_le p.x raw ≡ false

-- where the points are parted so many are reached
pub reached_is : (points : List PointsRow) (raw : ℤ) (n : ℕ) → n ≤ length points → IsPartitionPoint (Below raw) (Above raw) points n → reached points raw ≡ n
reached_is points raw n fits parts =
    let none : PointsRow = record { x = pos 0; millionths = pos 0 } in
    prefix_len_is (λ (p : PointsRow). int_le p.x raw) points n none fits (λ k lt. parts.0 k none (omega arith) lt) (λ lt. parts.1 n none (omega arith) lt)

both : (points : List PointsRow) (raw : ℤ) (n : ℕ) (before after : Option PointsRow) → AllByRecursion IsPoint points → n ≤ length points → IsPartitionPoint (Below raw) (Above raw) points n
    → last_of (take n points) ≡ before → slice_get points n ≡ after → AreNeighbours before after raw
both points raw n None after all fits parts b a = tt
both points raw n (Some p) None all fits parts b a = tt
both points raw n (Some p) (Some q) all fits parts b a =
    let k = length (take n points) - 1 in
    let within = slice_get_within (take n points) k p b in
    let long = length-take n points in
    let lower : k < n = omega arith in
    let inside : k < length points = omega arith in
    let there : get_or points k p ≡ p = sym (get_or-take n points k p lower) ∙ get_or_from_slice_get (take n points) k p p b in
    let next : get_or points n q ≡ q = get_or_from_slice_get points n q q a in
    let known = slice_get_within points n q a in
    let each = All-from_recursion IsPoint points all in
    let first : IsPoint p = subst IsPoint there (each k p inside) in
    let second : IsPoint q = subst IsPoint next (each n q known) in
    let low : int_le p.x raw ≡ true = subst (Below raw) there (parts.0 k p (omega arith) lower) in
    let high : int_le q.x raw ≡ false = subst (Above raw) next (parts.1 n q (omega arith) known) in
    record { first = first; second = second; from = le_true p.x raw low; to = above q.x raw high }

-- the raw number lies between the last point reached and the next one
pub neighbours : (points : List PointsRow) (raw : ℤ) (n : ℕ) → AllByRecursion IsPoint points → n ≤ length points → IsPartitionPoint (Below raw) (Above raw) points n
    → AreNeighbours (last_of (take n points)) (slice_get points n) raw
neighbours points raw n all fits parts = both points raw n (last_of (take n points)) (slice_get points n) all fits parts refl refl

-- the value between these two is that of the definition
pub value_is : (points : List PointsRow) (raw z : ℤ) (n : ℕ) (before after : Option PointsRow) (r : ℤ) → r ≡ between_points before after z → before ≡ last_of (take n points) → after ≡ slice_get points n → reached points z ≡ n → z ≡ raw
    → r ≡ on_points points raw
value_is points raw z n before after r e b a count same =
    e ∙ ap (λ (o : Option PointsRow). between_points o after z) b ∙ ap (λ (o : Option PointsRow). between_points (last_of (take n points)) o z) a
    ∙ ap (λ (k : ℕ). between_points (last_of (take k points)) (slice_get points k) z) (sym count) ∙ ap (on_points points) same
