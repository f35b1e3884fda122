use Rattle.std.proofs.Common.{◌≡◌, length}
use Rattle.segment_codec.specs.VarintEnds.{behind_ends}
use Rattle.segment_codec.proofs.varint_ends.passed_pieces.Given as goal

abbrev pub invariant-loop-rest : goal.invariant-loop-rest
invariant-loop-rest l = behind_ends l.rest l.left ≡ behind_ends l.octets l.count

abbrev pub decreases-loop-rest : goal.decreases-loop-rest
decreases-loop-rest l = length l.rest
