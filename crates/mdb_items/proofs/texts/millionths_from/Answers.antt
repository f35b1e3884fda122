use Rattle.std.proofs.Common.{length, arith}
use Rattle.mdb_items.proofs.Powers.{fraction_small}
use Rattle.text_forms.proofs.Powers.{digits_small}
use Rattle.mdb_items.proofs.texts.millionths_from.Goals as goal

pub overflow_mul-result : goal.overflow_mul-result
overflow_mul-result c =
    let whole = digits_small c.in-Some.whole (length c.args.whole.now) 12 c.in-Some.ensures.small c.in-Some.ensures.short in
    omega arith

pub overflow_add-result : goal.overflow_add-result
overflow_add-result c =
    let whole = digits_small c.in-Some.whole (length c.args.whole.now) 12 c.in-Some.ensures.small c.in-Some.ensures.short in
    let fraction = fraction_small c.in-Some-digits_at_most.fraction (length c.args.places.now) c.in-Some-digits_at_most.ensures.small c.in-Some-digits_at_most.ensures.short in
    rw c.pow-unit.ensures (omega arith)

pub returns-clause-small : goal.returns-clause-small
returns-clause-small c =
    let whole = digits_small c.in-Some.whole (length c.args.whole.now) 12 c.in-Some.ensures.small c.in-Some.ensures.short in
    let fraction = fraction_small c.in-Some-digits_at_most.fraction (length c.args.places.now) c.in-Some-digits_at_most.ensures.small c.in-Some-digits_at_most.ensures.short in
    rw c.pow-unit.ensures (omega arith)
