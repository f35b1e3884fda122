use Rattle.sealed_sums.proofs.Positions.{greater}
use Rattle.sealed_sums.proofs.marking.greatest.Goals as goal

pub loop-position-preserved : goal.loop-position-preserved
loop-position-preserved c =
    let was = c.loop-position.invariant in
    let more = greater c.args.positions.now c.loop-position.position-index c.loop-position.last c.max-last.result c.loop-position-test.true c.max-last.ensures was.there was.each in
    record { there = more.0; each = more.1 }
