-- Each turn takes the lowest octet of what is left.
use Rattle.std.proofs.Common.{◌%◌, arith}
use Rattle.std.proofs.lemmas.Nat.{mod_below}
use Rattle.container_extract.proofs.Numbers.{next_of_8, swapped_below, swapped_step}
use Rattle.container_extract.proofs.fields.reversed.Goals as goal

pub overflow_mul-swapped : goal.overflow_mul-swapped
overflow_mul-swapped c = omega (arith, next_of_8 c.loop.swapped 0 c.loop.counter c.args.octets c.loop.invariant.below (omega arith) c.loop-test.true c.requires)

pub overflow_add-swapped : goal.overflow_add-swapped
overflow_add-swapped c =
    omega (arith, next_of_8 c.loop.swapped (c.loop.rest % 256) c.loop.counter c.args.octets c.loop.invariant.below (mod_below c.loop.rest 256 (omega arith)) c.loop-test.true c.requires)

pub loop-preserved : goal.loop-preserved
loop-preserved c = record {
  below = swapped_below c.loop.swapped c.loop.rest c.loop.counter c.loop.invariant.below;
  left = swapped_step c.args.octets c.args.number c.loop.swapped c.loop.rest c.loop.counter c.loop-test.true c.loop.invariant.left;
}
