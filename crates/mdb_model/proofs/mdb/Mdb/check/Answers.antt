use Rattle.mdb_model.specs.Sheets.{IsCheckResult}
use Rattle.mdb_model.proofs.Checking.{all_given, containers_refuse, limits_give, parameters_refuse}
use Rattle.mdb_rules.proofs.Outcomes.{at_err}
use Rattle.mdb_model.proofs.mdb.Mdb.check.Goals as goal

pub returns-in_err-parameters : goal.returns-in_err-parameters
returns-in_err-parameters c =
    let raw = c.args.raw.now in
    let fault = c.in_err-parameters.field-0.0 in
    at_err (λ r. IsCheckResult raw r) c.from_residual-in_err-parameters.result fault c.from_residual-in_err-parameters.ensures.1
    (parameters_refuse raw c.in_ok-calibrations.calibrations fault c.in_ok-calibrations.ensures c.in_err-parameters.ensures)

pub returns-in_err-containers : goal.returns-in_err-containers
returns-in_err-containers c =
    let raw = c.args.raw.now in
    let fault = c.in_err-containers.field-0.0 in
    at_err (λ r. IsCheckResult raw r) c.from_residual-in_err-containers.result fault c.from_residual-in_err-containers.ensures.1
    (containers_refuse raw c.in_ok-calibrations.calibrations c.in_ok-parameters.parameters fault c.in_ok-calibrations.ensures c.in_ok-parameters.ensures c.in_err-containers.ensures)

pub within_limits-requires : goal.within_limits-requires
within_limits-requires c =
    all_given c.args.raw.now c.in_ok-calibrations.calibrations c.in_ok-parameters.parameters c.in_ok-containers.containers
    c.in_ok-calibrations.ensures c.in_ok-parameters.ensures c.in_ok-containers.ensures

pub returns : goal.returns
returns c =
    limits_give c.args.raw.now c.in_ok-calibrations.calibrations c.in_ok-parameters.parameters c.in_ok-containers.containers c.within_limits.result
    c.in_ok-calibrations.ensures c.in_ok-parameters.ensures c.in_ok-containers.ensures c.within_limits.ensures
