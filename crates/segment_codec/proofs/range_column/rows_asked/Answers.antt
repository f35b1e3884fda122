use Rattle.std.proofs.Common.{arith}
use Rattle.segment_codec.proofs.FirstRows.{count_within, start_within}
use Rattle.segment_codec.proofs.range_column.rows_asked.Goals as goal

pub start_in-first-requires : goal.start_in-first-requires
start_in-first-requires c = omega (arith, c.count_in-count.ensures, count_within c.args.limit c.args.rows)

pub returns-clause-within : goal.returns-clause-within
returns-clause-within c =
    let count = c.count_in-count.result in
    omega (arith, c.start_in-first.ensures, start_within c.args.direction c.args.rows count (omega (arith, c.count_in-count.ensures, count_within c.args.limit c.args.rows)))
