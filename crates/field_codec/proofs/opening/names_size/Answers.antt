use Rattle.std.proofs.Common.{ap, length, arith}
use Rattle.octet_fields.specs.Spelling.{name}
use Rattle.row_codec.proofs.Ends.{size_more}
use Rattle.field_codec.proofs.Sizes.{name_size, name_most}
use Rattle.field_codec.proofs.opening.names_size.Goals as goal

pub loop-table-preserved : goal.loop-table-preserved
loop-table-preserved c =
    let table = c.table-item.result in
    record {
      sum = omega (arith, c.loop-table.invariant.sum, size_more name c.args.names.now c.loop-table.table-index table c.loop-table-test.true c.table-item.is, name_size table, ap length c.as_slice.ensures.value);
      small = omega (arith, c.loop-table.invariant.small, name_most c.as_slice.result.now c.as_slice.ensures.name);
    }
