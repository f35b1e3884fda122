use Rattle.std.proofs.Common.{◌≡◌, take, map}
use Rattle.archive_store.proofs.retrieving.container_names.Given as goal

abbrev pub invariant-loop-container : goal.invariant-loop-container
invariant-loop-container l = l.names ≡ map (λ c. c.name) (take l.container-index l.mdb.containers)
