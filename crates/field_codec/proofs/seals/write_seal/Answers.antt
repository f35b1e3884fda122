use Rattle.std.proofs.Common.{◌≡◌, ◌++◌, ap, length, arith}
use Rattle.std.proofs.lemmas.Grind.{common_steps}
use Rattle.std.specs.Int.{w8}
use Rattle.octet_fields.specs.Spelling.{number}
use Rattle.seal_codec.specs.Seals.{seal_octets}
use Rattle.field_codec.proofs.Sizes.{seal_short}
use Rattle.field_codec.proofs.seals.write_seal.Goals as goal

pub returns-clause-short : goal.returns-clause-short
returns-clause-short c =
    let is : c.put_seal.new.out.items ≡ number w8 4 ++ seal_octets c.args.seal.now = grind (arith, common_steps) in
    omega (arith, ap length is, seal_short c.args.seal.now c.requires)
