use Rattle.std.proofs.Common.{arith}
use Rattle.octet_fields.proofs.Answers.{reads_each, reads_only}
use Rattle.octet_fields.proofs.Stations.{stations_exact}
use Rattle.octet_fields.proofs.example.read_stations.Goals as goal

pub returns-clause-spelled : goal.returns-clause-spelled
returns-clause-spelled c = reads_only stations_exact tt (λ v. v.items) c.args.octets.now c.whole.result (λ i. omega (arith, c.type_inv.octets i)) c.whole.ensures

pub returns-clause-each : goal.returns-clause-each
returns-clause-each c = reads_each stations_exact tt (λ v. v.items) c.args.octets.now c.whole.result c.whole.ensures
