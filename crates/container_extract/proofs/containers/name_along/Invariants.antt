use Rattle.std.proofs.Common.{◌≡◌, take}
use Rattle.container_extract.specs.Chain.{name_along}
use Rattle.container_extract.proofs.containers.name_along.Given as goal

abbrev pub invariant-loop-number : goal.invariant-loop-number
invariant-loop-number l = l.name ≡ name_along l.containers (take l.number-index l.chain)
