use Rattle.std.proofs.Common.{◌≡◌, ◌++◌, ap, length, arith}
use Rattle.std.proofs.lemmas.Grind.{common_steps}
use Rattle.std.specs.Int.{w8}
use Rattle.octet_fields.specs.Spelling.{number}
use Rattle.field_codec.specs.Spelling.{head_octets}
use Rattle.field_codec.proofs.Sizes.{head_short}
use Rattle.field_codec.proofs.head.write_head.Goals as goal

pub returns-clause-short : goal.returns-clause-short
returns-clause-short c =
    let is : c.extend_from_slice.new.self.items ≡ number w8 1 ++ head_octets c.args.tables.now c.args.mdb.now = grind (arith, common_steps) in
    omega (arith, ap length is, head_short c.args.tables.now c.args.mdb.now c.requires.0 c.requires.1)
