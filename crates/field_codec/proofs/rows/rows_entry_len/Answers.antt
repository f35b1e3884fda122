use Rattle.std.proofs.Common.{arith}
use Rattle.field_codec.proofs.Sizes.{rows_size}
use Rattle.field_codec.proofs.rows.rows_entry_len.Goals as goal

pub returns-clause-len : goal.returns-clause-len
returns-clause-len c = omega (arith, rows_size c.args.rows.now, c.rows_size.ensures.size)
