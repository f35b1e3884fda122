use Rattle.std.proofs.Common.{ℕ, zero, suc, ◌<◌, ◌≤◌, length, arith}
use Rattle.std.specs.Prelude.{slice_get}
use Rattle.std.specs.List.{AllByRecursion}
use Rattle.std.proofs.lemmas.List.Elements.{All-filter, All-from_recursion, recursion_from_All}
use Rattle.partitions.specs.Places.{falling, is_noted_in, places_in}
use Rattle.partitions.proofs.laws.places_are_noted.Goals as goal

all_below : (n limit : ℕ) → n ≤ limit → AllByRecursion (λ place. place < limit) (falling n)
all_below zero limit le = tt
all_below (suc n) limit le = (omega (arith, le), all_below n limit (omega (arith, le)))

pub returns : goal.returns
returns c = λ partition noted.
    let below = λ (place : ℕ). place < length noted in
    recursion_from_All below (places_in partition noted) (All-filter (λ place. is_noted_in partition (slice_get noted place)) below (falling (length noted)) (All-from_recursion below (falling (length noted)) (all_below (length noted) (length noted) (omega arith))))
