use Rattle.std.proofs.Common.{take, arith}
use Rattle.std.proofs.lemmas.List.{length-map, length-take-le}
use Rattle.sealed_sums.proofs.Stretches.{one_count}
use Rattle.sealed_sums.specs.Stretch.{times_of_rows}
use Rattle.sealed_sums.proofs.stretch.first_stretch.Goals as goal

pub with-requires-clause-count : goal.with-requires-clause-count
with-requires-clause-count c =
    let front = take c.loop-i.i c.args.rows.now in
    let count = one_count c.loop-i.stretch.span (times_of_rows front) c.loop-i.invariant.is.span in
    omega (arith, count, length-map front (λ row. row.key.time), length-take-le c.loop-i.i c.args.rows.now (omega arith))
