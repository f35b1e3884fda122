use Rattle.std.proofs.Common.{length, arith}
use Rattle.text_forms.proofs.Powers.{digits_small}
use Rattle.mdb_items.proofs.texts.whole_millionths.Goals as goal

pub overflow_mul-result : goal.overflow_mul-result
overflow_mul-result c =
    let whole = digits_small c.in-Some.whole (length c.args.text.now) 12 c.in-Some.ensures.small c.in-Some.ensures.short in
    omega arith

pub returns-clause-small : goal.returns-clause-small
returns-clause-small c =
    let whole = digits_small c.in-Some.whole (length c.args.text.now) 12 c.in-Some.ensures.small c.in-Some.ensures.short in
    omega arith
