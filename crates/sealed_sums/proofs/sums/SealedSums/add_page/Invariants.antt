use Rattle.std.proofs.Common.{length}
use Rattle.sealed_sums.proofs.Told.{Told}
use Rattle.sealed_sums.proofs.sums.SealedSums.add_page.Given as goal

abbrev pub decreases-loop-rest : goal.decreases-loop-rest
decreases-loop-rest l = length l.rest

abbrev pub invariant-loop-rest : goal.invariant-loop-rest
invariant-loop-rest l = Told l.rows l.positions l.rest l.places l.fn.self l.self l.fn.tracker l.tracker
