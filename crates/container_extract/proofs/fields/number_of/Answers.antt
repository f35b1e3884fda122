use Rattle.std.proofs.Common.{arith, get_or, length}
use Rattle.container_extract.proofs.Numbers.{next_of_8}
use Rattle.container_extract.proofs.fields.number_of.Goals as goal

pub overflow_mul-number : goal.overflow_mul-number
overflow_mul-number c = omega (arith, next_of_8 c.loop-octet.number 0 c.loop-octet.octet-index (length c.args.octets.now) c.loop-octet.invariant.1 (omega arith) c.loop-octet-test.true c.requires)

pub overflow_add-number : goal.overflow_add-number
overflow_add-number c =
    let small = c.type_inv.octets c.loop-octet.octet-index in
    omega (arith, next_of_8 c.loop-octet.number (get_or c.args.octets.now c.loop-octet.octet-index 0) c.loop-octet.octet-index (length c.args.octets.now) c.loop-octet.invariant.1 (omega (arith, small)) c.loop-octet-test.true c.requires)
