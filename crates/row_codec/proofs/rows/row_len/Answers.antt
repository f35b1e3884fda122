use Rattle.std.proofs.Common.{ap, length, arith}
use Rattle.row_codec.proofs.Sizes.{row_size}
use Rattle.row_codec.proofs.rows.row_len.Goals as goal

pub returns-clause-value : goal.returns-clause-value
returns-clause-value c = omega (arith, row_size c.args.row.now, c.packet_size.ensures.size, ap length c.as_slice.ensures)
