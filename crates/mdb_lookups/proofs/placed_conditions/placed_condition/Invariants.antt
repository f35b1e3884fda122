use Rattle.std.proofs.Common.{◌≡◌, map, take}
use Rattle.mdb_lookups.specs.PlacedConditions.{with_place}
use Rattle.mdb_lookups.proofs.placed_conditions.placed_condition.Given as goal

abbrev pub invariant-loop-comparison : goal.invariant-loop-comparison
invariant-loop-comparison l = l.comparisons.items ≡ map (with_place l.parameters) (take l.comparison-index l.condition)
