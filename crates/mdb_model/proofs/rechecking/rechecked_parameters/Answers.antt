use Rattle.mdb_model.specs.Rechecking.{ParametersRechecked}
use Rattle.mdb_rules.proofs.Outcomes.{at_err}
use Rattle.mdb_model.proofs.RowsAgain.{at_index, parameter_more, parameter_refused, parameters_done}
use Rattle.mdb_model.proofs.rechecking.rechecked_parameters.Goals as goal

pub returns-in_err-recheck_parameter : goal.returns-in_err-recheck_parameter
returns-in_err-recheck_parameter c =
    at_err (λ r. ParametersRechecked c.args.calibrations.now c.args.given.now r) c.from_residual.result _ c.from_residual.ensures.1
    (parameter_refused c.args.calibrations.now c.args.given.now c.loop-p.parameters.items.items c.loop-p.p-index _ _ (at_index c.args.given.now c.loop-p.p-index _ c.loop-p-test.true c.p-item.is) c.in_err-recheck_parameter.ensures c.loop-p.invariant.1)

pub loop-p-preserved : goal.loop-p-preserved
loop-p-preserved c =
    let taken = c.in_ok-recheck_parameter.ensures in
    (taken.2, parameter_more c.args.calibrations.now c.args.given.now c.loop-p.parameters.items.items c.recheck_parameter.new.parameters.items.items c.loop-p.p-index _ (at_index c.args.given.now c.loop-p.p-index _ c.loop-p-test.true c.p-item.is) taken.0 taken.1 c.loop-p.invariant.1)

pub returns : goal.returns
returns c =
    let done = parameters_done c.args.calibrations.now c.args.given.now c.loop-p.parameters.items.items c.loop-p.p-index c.loop-p-test.false c.loop-p.invariant.1 in
    (done.0, done.1, c.loop-p.invariant.0)
