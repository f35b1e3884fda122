-- The differences, their product and the quotient are those of the definition, since the rules bound them.
use Rattle.calibration.proofs.Line.{narrow_fits, narrow_is, not_minus_one, product_fits, value_fits}
use Rattle.calibration.proofs.points.on_line.Goals as goal

pub overflow_mul-rise : goal.overflow_mul-rise
overflow_mul-rise c = product_fits c.args.p c.args.q c.args.raw c.requires

pub div_euclid-quotient-requires-clause-no_overflow :
    goal.div_euclid-quotient-requires-clause-no_overflow
div_euclid-quotient-requires-clause-no_overflow c = λ e _. not_minus_one c.args.p c.args.q c.args.raw c.requires e

pub overflow_add-result : goal.overflow_add-result
overflow_add-result c = value_fits c.args.p c.args.q c.args.raw c.div_euclid-quotient.result c.requires c.div_euclid-quotient.ensures

pub overflow_cast-result-2 : goal.overflow_cast-result-2
overflow_cast-result-2 c = narrow_fits c.args.p c.args.q c.args.raw c.div_euclid-quotient.result c.requires c.div_euclid-quotient.ensures

pub returns : goal.returns
returns c = narrow_is c.args.p c.args.q c.args.raw c.div_euclid-quotient.result c.requires c.div_euclid-quotient.ensures
