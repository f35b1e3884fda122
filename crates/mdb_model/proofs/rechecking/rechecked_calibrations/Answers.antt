use Rattle.std.proofs.Common.{◌∙◌, ◌<◌, length, refl, ap, arith}
use Rattle.std.specs.Prelude.{option_copied, option_map}
use Rattle.std.proofs.lemmas.Option.{slice_get_read}
use Rattle.mdb_items.specs.declared.calibration.Calibration.{Calibration}
use Rattle.mdb_model.specs.Rechecking.{CalibrationsRechecked}
use Rattle.mdb_rules.proofs.Outcomes.{at_err}
use Rattle.mdb_model.proofs.RowsAgain.{calibration_more, calibration_refused, calibrations_done}
use Rattle.mdb_model.proofs.rechecking.rechecked_calibrations.Goals as goal

pub returns-in_err-recheck_rows : goal.returns-in_err-recheck_rows
returns-in_err-recheck_rows c =
    let given = c.args.given.now in
    let i = c.loop-i.i in
    let row = c.index-given-i.result in
    let lt : i < length given = omega arith in
    let at = slice_get_read given (length given) i row refl lt c.index-given-i.is in
    let next = c.name_of-next.ensures ∙ ap (option_map (λ (x : Calibration). x.name)) c.calibration_at.ensures in
    at_err (λ r. CalibrationsRechecked given r) c.from_residual.result _ c.from_residual.ensures.1
    (calibration_refused given c.loop-i.calibrations c.recheck_rows.new.calibrations i row (option_copied c.name_of-next.result) _ c.requires at next c.in_err-recheck_rows.ensures c.loop-i.invariant.1)

pub loop-i-preserved : goal.loop-i-preserved
loop-i-preserved c =
    let given = c.args.given.now in
    let i = c.loop-i.i in
    let row = c.index-given-i.result in
    let lt : i < length given = omega arith in
    let at = slice_get_read given (length given) i row refl lt c.index-given-i.is in
    let next = c.name_of-next.ensures ∙ ap (option_map (λ (x : Calibration). x.name)) c.calibration_at.ensures in
    let taken = c.in_ok-recheck_rows.ensures in
    (taken.2, calibration_more given c.loop-i.calibrations c.recheck_rows.new.calibrations i row (option_copied c.name_of-next.result) c.requires at next taken c.loop-i.invariant.1)

pub returns : goal.returns
returns c =
    let done = calibrations_done c.args.given.now c.loop-i.calibrations.items.items c.loop-i.i (omega arith) c.loop-i.invariant.1 in
    (done.0, done.1, c.loop-i.invariant.0)
