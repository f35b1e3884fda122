use Rattle.std.proofs.Common.{◌≡◌, map, take}
use Rattle.mdb_items.specs.Paths.{paths_of}
use Rattle.mdb_lookups.specs.PlacedConditions.{placed_below}
use Rattle.mdb_lookups.proofs.placed_conditions.placed_conditions.Given as goal

abbrev pub invariant-loop-container : goal.invariant-loop-container
invariant-loop-container l = l.conditions.items ≡ map (placed_below (paths_of l.containers)) (take l.container-index l.containers)
