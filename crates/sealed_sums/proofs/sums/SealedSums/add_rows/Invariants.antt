use Rattle.std.proofs.Common.{length}
use Rattle.sealed_sums.proofs.Summed.{Summed}
use Rattle.sealed_sums.proofs.sums.SealedSums.add_rows.Given as goal

abbrev pub decreases-loop-rest : goal.decreases-loop-rest
decreases-loop-rest l = length l.rest

abbrev pub invariant-loop-rest : goal.invariant-loop-rest
invariant-loop-rest l = Summed l.rows l.rest l.fn.self l.self
