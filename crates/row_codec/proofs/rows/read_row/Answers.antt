use Rattle.std.proofs.Common.{arith}
use Rattle.octet_fields.proofs.Answers.{reads_each_first, reads_only_first}
use Rattle.row_codec.proofs.RowFields.{row_exact}
use Rattle.row_codec.proofs.rows.read_row.Goals as goal

pub returns-clause-spelled : goal.returns-clause-spelled
returns-clause-spelled c = reads_only_first row_exact (λ x. (x.0, x.1.now)) c.args.octets.now c.row_at.result (λ i. omega (arith, c.type_inv.octets i)) c.row_at.ensures.gives

pub returns-clause-each : goal.returns-clause-each
returns-clause-each c = reads_each_first row_exact (λ x. (x.0, x.1.now)) c.args.octets.now c.row_at.result c.row_at.ensures.gives
