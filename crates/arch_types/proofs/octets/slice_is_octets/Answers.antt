use Rattle.std.proofs.Common.{arith}
use Rattle.arch_types.proofs.octets.slice_is_octets.Goals as goal

pub returns : goal.returns
returns c = λ i. omega (arith, c.type_inv._octets i)
