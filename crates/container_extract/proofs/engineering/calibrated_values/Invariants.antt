use Rattle.std.proofs.Common.{◌≡◌, map, take}
use Rattle.container_extract.specs.Values.{calibrated_value}
use Rattle.container_extract.proofs.engineering.calibrated_values.Given as goal

abbrev pub invariant-loop-value : goal.invariant-loop-value
invariant-loop-value l = l.values.items ≡ map (calibrated_value l.mdb) (take l.value-index l.raw)
