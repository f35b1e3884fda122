-- The power and its product with the coefficient fit, since the coefficient carries the raw number no further than 2^63.
use Rattle.std.proofs.Common.{◌∙◌, ap, sym, subst, FitsSigned}
use Rattle.std.specs.Prelude.{ℤ}
use Rattle.std.specs.Int.{int_pow, w128}
use Rattle.std.proofs.lemmas.Int.{to_z-of_z}
use Rattle.calibration.proofs.Sums.{power_fits, term_fits, term_is}
use Rattle.calibration.proofs.polynomial.term.Goals as goal

pub pow-requires : goal.pow-requires
pow-requires c =
    let same = to_z-of_z w128 c.args.raw c.ranges.raw in
    subst (λ (z : ℤ). FitsSigned w128 (int_pow z c.args.row.exponent)) (sym same) (power_fits c.args.raw c.args.row c.requires)

pub overflow_mul-result : goal.overflow_mul-result
overflow_mul-result c =
    let same = to_z-of_z w128 c.args.raw c.ranges.raw in
    term_fits c.args.raw c.pow.result c.args.row c.requires (c.pow.ensures ∙ ap (λ (z : ℤ). int_pow z c.args.row.exponent) same)

pub returns : goal.returns
returns c =
    let same = to_z-of_z w128 c.args.raw c.ranges.raw in
    term_is c.args.raw c.pow.result c.args.row c.requires (c.pow.ensures ∙ ap (λ (z : ℤ). int_pow z c.args.row.exponent) same)
