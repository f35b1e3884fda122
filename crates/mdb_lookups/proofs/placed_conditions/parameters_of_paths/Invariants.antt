use Rattle.std.proofs.Common.{◌≡◌, map, take}
use Rattle.mdb_items.specs.Paths.{paths_of}
use Rattle.mdb_lookups.specs.PlacedConditions.{path_parameters}
use Rattle.mdb_lookups.proofs.placed_conditions.parameters_of_paths.Given as goal

abbrev pub invariant-loop-container : goal.invariant-loop-container
invariant-loop-container l = l.paths.items ≡ map path_parameters (paths_of (take l.container-index l.containers))
