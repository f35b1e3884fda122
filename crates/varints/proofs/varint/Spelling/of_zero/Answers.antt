use Rattle.std.proofs.Common.{refl, arith}
use Rattle.varints.specs.Words.{octets_of}
use Rattle.varints.proofs.Varints.{varint-small}
use Rattle.varints.proofs.varint.Spelling.of_zero.Goals as goal

pub invariant_of-result : goal.invariant_of-result
unfolding octets_of
invariant_of-result c = record { short = omega arith; whole = refl; spelled = varint-small 0 (omega arith) }
