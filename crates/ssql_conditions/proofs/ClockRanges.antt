-- A time behind the clock's range bounds as the range's end does.
use Rattle.std.proofs.Common.{◌≡◌, ◌≤◌, List, [], ◌∷◌, length, get_or, drop, fold, false, None, refl, sym, ap, ◌∙◌, arith}
use Rattle.std.specs.Prelude.{ℤ, pos, ◌+ℤ◌, ◌≤ℤ◌, int_lt}
use Rattle.std.specs.Int.{int_min, int_max}
use Rattle.std.proofs.lemmas.Int.{ints, clamps, by_lt_z}
use Rattle.partitions.specs.declared.bounds.Bounds.{Bounds}
use Rattle.ssql_conditions.specs.declared.predicate.NumberTest.TheVariants.{In}
use Rattle.ssql_conditions.specs.ConditionBounds.{clock_bounds, clock_end, gentime_bounds, no_bounds, range_bounds}

cut_twice : (to : ℤ) → int_min (int_min to clock_end) clock_end ≡ int_min to clock_end
cut_twice to = omega (arith, ints, clamps)

-- an end that is cut to the range
pub cut_end : (from to next : ℤ) → next ≡ int_min to clock_end → clock_bounds from next ≡ clock_bounds from to
cut_end from to next is = ap (λ (e : ℤ). range_bounds (int_max from (pos 0)) e None) (ap (λ (n : ℤ). int_min n clock_end) is ∙ cut_twice to)

none_between : (from : ℤ) → clock_end ≤ℤ from → int_lt (int_max from (pos 0)) (int_min clock_end clock_end) ≡ false
none_between from behind = grind (arith, ints, clamps)

nothing_left : (from : ℤ) → clock_end ≤ℤ from → clock_bounds from clock_end ≡ no_bounds
nothing_left from behind = rw (none_between from behind) refl

-- a beginning that is cut to the range
pub cut_start : (from next : ℤ) → next ≡ int_min from clock_end → clock_bounds next clock_end ≡ clock_bounds from clock_end
cut_start from next is =
    by_lt_z from clock_end
    (λ within. ap (λ (f : ℤ). clock_bounds f clock_end) (let same : next ≡ from = is ∙ omega (arith, ints, clamps, within) in same))
    (λ behind. nothing_left next (omega (arith, ints, clamps, is, behind)) ∙ sym (nothing_left from behind))

-- the bounds around listed times
pub listed_around : (times : List ℤ) (first : ℤ) (more : List ℤ) (bounds : Bounds) → 1 ≤ length times → first ≡ get_or times 0 (pos 0) → more ≡ drop 1 times →
    bounds ≡ clock_bounds (fold int_min first more) (fold int_max first more +ℤ pos 1) → bounds ≡ gentime_bounds (In times)
listed_around [] first more bounds some one rest is = absurd (omega (arith, some))
listed_around (x ∷ xs) first more bounds some one rest is =
    is ∙ ap (λ (f : ℤ). clock_bounds (fold int_min f more) (fold int_max f more +ℤ pos 1)) one
    ∙ ap (λ (m : List ℤ). clock_bounds (fold int_min x m) (fold int_max x m +ℤ pos 1)) rest
