use Rattle.std.proofs.Common.{arith}
use Rattle.octet_fields.proofs.Answers.{reads_each, reads_only}
use Rattle.octet_fields.proofs.Numbers.{exact64}
use Rattle.field_codec.proofs.seals.read_log_head.Goals as goal

pub returns-clause-spelled : goal.returns-clause-spelled
returns-clause-spelled c = reads_only exact64 tt (λ rows. rows) c.args.octets.now c.whole_log_head.result (λ i. omega (arith, c.type_inv.octets i)) c.whole_log_head.ensures

pub returns-clause-each : goal.returns-clause-each
returns-clause-each c = reads_each exact64 tt (λ rows. rows) c.args.octets.now c.whole_log_head.result c.whole_log_head.ensures
