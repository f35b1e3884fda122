use Rattle.std.proofs.Common.{◌∙◌, ap, subst, sym}
use Rattle.std.proofs.lemmas.Result.{err_from_is_err_and}
use Rattle.param_segments.specs.Extracted.{IsSetOf}
use Rattle.param_segments.specs.Octets.{set_octets}
use Rattle.param_segments.proofs.set.SegSet.from_octets.Goals as goal

pub over-requires : goal.over-requires
over-requires c = c.in_ok-own.ensures.spelled.1

pub returns-in_err-own-clause-each : goal.returns-in_err-own-clause-each
returns-in_err-own-clause-each c = λ rows is same.
    let p = err_from_is_err_and c.from_residual.result c.from_residual.ensures.1 in
    rw (p.1, p.2) (c.in_err-own.ensures.each rows is same)

pub returns-clause-spelled : goal.returns-clause-spelled
returns-clause-spelled c =
    (subst (IsSetOf c.args.mdb.now c.args.exponent c.args.interval.0) (sym c.over.ensures.same) c.in_ok-own.ensures.spelled.0, c.in_ok-own.ensures.spelled.1 ∙ ap set_octets (sym c.over.ensures.same))

pub returns-clause-each : goal.returns-clause-each
returns-clause-each c = λ rows is same. c.over.ensures.same ∙ c.in_ok-own.ensures.each rows is same
