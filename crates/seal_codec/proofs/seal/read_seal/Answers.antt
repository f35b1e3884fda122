use Rattle.std.proofs.Common.{arith}
use Rattle.octet_fields.proofs.Answers.{reads_each, reads_only}
use Rattle.seal_codec.proofs.SealSpelling.{seal_exact}
use Rattle.seal_codec.proofs.seal.read_seal.Goals as goal

pub returns-clause-spelled : goal.returns-clause-spelled
returns-clause-spelled c = reads_only seal_exact tt (λ seal. seal) c.args.octets.now c.whole_seal.result (λ i. omega (arith, c.type_inv.octets i)) c.whole_seal.ensures

pub returns-clause-each : goal.returns-clause-each
returns-clause-each c = reads_each seal_exact tt (λ seal. seal) c.args.octets.now c.whole_seal.result c.whole_seal.ensures
