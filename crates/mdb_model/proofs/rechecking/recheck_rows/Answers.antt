use Rattle.std.proofs.Common.{option_copied}
use Rattle.mdb_model.specs.Rechecking.{CalibrationRechecked}
use Rattle.mdb_rules.proofs.Outcomes.{at_err}
use Rattle.mdb_model.proofs.RowsAgain.{row_more, row_refused}
use Rattle.mdb_model.proofs.rechecking.recheck_rows.Goals as goal

pub returns-in_err-recheck_row : goal.returns-in_err-recheck_row
returns-in_err-recheck_row c =
    at_err (λ r. CalibrationRechecked c.args.calibrations.now c.recheck_row.new.calibrations c.args.given.now (option_copied c.args.next) r) c.from_residual-in_err-recheck_row.result _ c.from_residual-in_err-recheck_row.ensures.1
    (row_refused c.args.calibrations.now c.loop-place.calibrations c.recheck_row.new.calibrations c.args.given.now c.as_bytes-name.result.now (option_copied c.args.next) (option_copied c.name_after-after.result) c.calibrator_len-count.result c.loop-place.place c.in_ok-row_values.row_values _
    (c.as_bytes-name.ensures, c.calibrator_len-count.ensures, c.name_after-after.ensures.another, c.name_after-after.ensures.last) c.in_ok-row_values.ensures c.in_err-recheck_row.ensures c.loop-place.invariant.1)

pub loop-place-preserved : goal.loop-place-preserved
loop-place-preserved c =
    row_more c.args.calibrations.now c.loop-place.calibrations c.recheck_row.new.calibrations c.args.given.now c.as_bytes-name.result.now (option_copied c.args.next) (option_copied c.name_after-after.result) c.calibrator_len-count.result c.loop-place.place c.in_ok-row_values.row_values
    (c.as_bytes-name.ensures, c.calibrator_len-count.ensures, c.name_after-after.ensures.another, c.name_after-after.ensures.last) c.in_ok-row_values.ensures c.in_ok-recheck_row.ensures c.loop-place.invariant.1
