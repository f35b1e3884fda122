use Rattle.std.proofs.Common.{arith}
use Rattle.octet_fields.proofs.Answers.{reads_each, reads_only}
use Rattle.field_codec.proofs.RowLists.{rows_exact}
use Rattle.field_codec.proofs.rows.read_rows.Goals as goal

pub returns-clause-spelled : goal.returns-clause-spelled
returns-clause-spelled c = reads_only rows_exact tt (λ rows. rows) c.args.octets.now c.whole_rows.result (λ i. omega (arith, c.type_inv.octets i)) c.whole_rows.ensures

pub returns-clause-each : goal.returns-clause-each
returns-clause-each c = reads_each rows_exact tt (λ rows. rows) c.args.octets.now c.whole_rows.result c.whole_rows.ensures
