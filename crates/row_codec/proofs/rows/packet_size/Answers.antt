use Rattle.std.proofs.Common.{arith}
use Rattle.row_codec.proofs.Sizes.{packet_short}
use Rattle.row_codec.proofs.rows.packet_size.Goals as goal

pub returns-clause-small : goal.returns-clause-small
returns-clause-small c = omega (arith, packet_short c.args.packet.now c.requires (λ i. omega (arith, c.type_inv.packet i)))
