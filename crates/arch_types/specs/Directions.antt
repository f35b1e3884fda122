-- The order in which an answer is given, and how much of it.
use Rattle.std.specs.Prelude.{ℕ, List, reverse, take, Option, Some, None}
use Rattle.arch_types.specs.declared.direction.Direction.{Direction}
use Rattle.arch_types.specs.declared.direction.Direction.TheVariants.{Ascending, Descending}

-- the last first, where that is asked
abbrev pub in_direction : {X : Type 0} → Direction → List X → List X
in_direction Ascending xs = xs
in_direction Descending xs = reverse xs

-- the first items, so many at most where there is a limit
abbrev pub truncated : {X : Type 0} → Option ℕ → List X → List X
truncated None xs = xs
truncated (Some limit) xs = take limit xs
