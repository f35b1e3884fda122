use Rattle.std.proofs.Common.{◌<◌, arith}
use Rattle.segment_codec.proofs.Numbers.{number_from_digits-nil, gather_fits, gather_more}
use Rattle.segment_codec.proofs.unpack.gather.Goals as goal

pub loop-octet-init : goal.loop-octet-init
loop-octet-init c = record { sum = omega (arith, number_from_digits-nil 8); below = c.requires.bits }

pub overflow_mul-all : goal.overflow_mul-all
overflow_mul-all c =
    let f = gather_fits c.loop-octet.octet-index c.loop-octet.all 0 c.loop-octet.invariant.below (omega arith) (omega arith) in
    omega arith

pub overflow_add-all : goal.overflow_add-all
overflow_add-all c =
    let o : c.from.result < 256 = omega (arith, c.from.ensures, c.type_inv.rest c.loop-octet.octet-index) in
    let f = gather_fits c.loop-octet.octet-index c.loop-octet.all c.from.result c.loop-octet.invariant.below (omega arith) o in
    omega arith

pub loop-octet-preserved : goal.loop-octet-preserved
loop-octet-preserved c =
    let o : c.from.result < 256 = omega (arith, c.from.ensures, c.type_inv.rest c.loop-octet.octet-index) in
    let f = gather_fits c.loop-octet.octet-index c.loop-octet.all c.from.result c.loop-octet.invariant.below (omega arith) o in
    record { sum = gather_more c.args.bits c.loop-octet.all c.loop-octet.octet-index c.args.rest.now c.from.result c.from.ensures c.loop-octet-test.true c.loop-octet.invariant.sum; below = f.1 }
