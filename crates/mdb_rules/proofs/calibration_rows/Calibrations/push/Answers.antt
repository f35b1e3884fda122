use Rattle.std.proofs.Common.{◌-◌, ◌<◌, length, refl, arith}
use Rattle.std.proofs.lemmas.Option.{slice_get_read}
use Rattle.std.proofs.lemmas.Result.{on_ok_weaker}
use Rattle.mdb_rules.proofs.CalibrationSteps.{written}
use Rattle.mdb_rules.proofs.calibration_rows.Calibrations.push.Goals as goal

pub returns-clause-items : goal.returns-clause-items
returns-clause-items c =
    let items = c.args.self.now.items.items in
    let n = c.len-last.result - 1 in
    let old = c.index_mut-calibration.result.now in
    let len = c.args.self.now.items.ok.0 in
    let lt : n < length items = omega arith in
    let at = slice_get_read items (length items) n old refl lt c.index_mut-calibration.ensures.value in
    on_ok_weaker c.push_row.result (λ e. written items n old c.push_row.new.calibrator c.args.row_values (omega arith) at e) c.push_row.ensures
