use Rattle.std.proofs.Common.{arith}
use Rattle.octet_fields.proofs.Answers.{reads_each, reads_only}
use Rattle.run_pages.proofs.IndexSpelling.{index_exact}
use Rattle.run_pages.proofs.index.read_index.Goals as goal

pub returns-clause-spelled : goal.returns-clause-spelled
returns-clause-spelled c = reads_only (index_exact c.args.count) tt (λ v. v.items) c.args.octets.now c.whole_index.result (λ i. omega (arith, c.type_inv.octets i)) c.whole_index.ensures

pub returns-clause-each : goal.returns-clause-each
returns-clause-each c = reads_each (index_exact c.args.count) tt (λ v. v.items) c.args.octets.now c.whole_index.result c.whole_index.ensures
