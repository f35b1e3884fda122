use Rattle.std.proofs.Common.{refl, arith}
use Rattle.octet_fields.proofs.Answers.{reads_each, reads_only}
use Rattle.field_codec.proofs.FillSpelling.{fill_exact}
use Rattle.field_codec.specs.Spelling.{fill_fields}
use Rattle.field_codec.proofs.fills.read_fill.Goals as goal

pub returns-clause-spelled : goal.returns-clause-spelled
returns-clause-spelled c = reads_only fill_exact refl (λ x. fill_fields x.0 x.1 x.2) c.args.octets.now c.whole_fill.result (λ i. omega (arith, c.type_inv.octets i)) c.whole_fill.ensures

pub returns-clause-each : goal.returns-clause-each
returns-clause-each c = reads_each fill_exact refl (λ x. fill_fields x.0 x.1 x.2) c.args.octets.now c.whole_fill.result c.whole_fill.ensures
