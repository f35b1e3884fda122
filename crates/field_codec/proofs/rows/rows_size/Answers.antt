use Rattle.std.proofs.Common.{arith}
use Rattle.row_codec.specs.Spelling.{row_octets}
use Rattle.row_codec.proofs.Ends.{size_more}
use Rattle.field_codec.proofs.rows.rows_size.Goals as goal

pub loop-row-preserved : goal.loop-row-preserved
loop-row-preserved c =
    let row = c.row-item.result in
    record {
      sum = omega (arith, c.loop-row.invariant.sum, size_more row_octets c.args.rows.now c.loop-row.row-index row c.loop-row-test.true c.row-item.is, c.row_len-size.ensures.value);
      small = omega (arith, c.loop-row.invariant.small, c.row_len-size.ensures.bound);
    }
