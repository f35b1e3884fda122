use Rattle.std.proofs.Common.{length, ap, arith}
use Rattle.arch_types.specs.declared.row.Row.{Row}
use Rattle.archive_history.proofs.Intervals.{octets_more}
use Rattle.archive_history.proofs.history.octets_in.Goals as goal

pub loop-row-preserved : goal.loop-row-preserved
loop-row-preserved c = record {
  sum = omega (arith, c.loop-row.invariant.sum, c.len.ensures.value, octets_more c.args.rows.now c.loop-row.row-index c.row-item.result c.loop-row-test.true, ap (λ (r : Row). length r.packet) c.row-item.is);
  small = omega (arith, c.loop-row.invariant.small, c.len.ensures.bound);
}
