use Rattle.std.proofs.Common.{◌≡◌, ◌++◌}
use Rattle.varints.specs.Varint.{varint}
use Rattle.varints.proofs.varint.put_varint.Given as goal

abbrev pub invariant-loop-rest : goal.invariant-loop-rest
invariant-loop-rest l = l.out.items ++ varint l.rest ≡ l.initial.out.items ++ varint l.n

abbrev pub decreases-loop-rest : goal.decreases-loop-rest
decreases-loop-rest l = l.rest
