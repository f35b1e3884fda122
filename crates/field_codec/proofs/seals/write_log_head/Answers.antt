use Rattle.std.proofs.Common.{◌≡◌, ◌++◌, ap, length, arith}
use Rattle.std.proofs.lemmas.Grind.{common_steps}
use Rattle.std.specs.Int.{w8, w64}
use Rattle.octet_fields.specs.Spelling.{number}
use Rattle.field_codec.proofs.Sizes.{log_head_short}
use Rattle.field_codec.proofs.seals.write_log_head.Goals as goal

pub returns-clause-short : goal.returns-clause-short
returns-clause-short c =
    let is : c.put_u64.new.out.items ≡ number w8 5 ++ number w64 c.args.rows = grind (arith, common_steps) in
    omega (arith, ap length is, log_head_short c.args.rows)
