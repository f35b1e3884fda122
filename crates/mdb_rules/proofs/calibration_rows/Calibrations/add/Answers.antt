use Rattle.mdb_items.specs.CalibrationRows.{calibration_checks}
use Rattle.std.specs.Prelude.{option_copied}
use Rattle.mdb_rules.proofs.CalibrationSteps.{in_step_after}
use Rattle.mdb_rules.proofs.Outcomes.{on_ok3}
use Rattle.mdb_rules.proofs.Passing.{all_pass}
use Rattle.mdb_rules.proofs.calibration_rows.Calibrations.add.Goals as goal

pub returns-clause-step : goal.returns-clause-step
returns-clause-step c =
    let p = all_pass (calibration_checks c.args.self.now.items.items (record { fields = c.args.fields; name = c.args.name.now; row_values = c.args.row_values }) (option_copied c.args.next)) c.requires.sound in
    on_ok3 c.push.result (λ items names numbers. in_step_after c.args.self.now.items.items c.args.name.now c.args.row_values c.open.new.self c.push.new.self p.1.1.1.1.0 c.in_ok-open.ensures.items c.in_ok-open.ensures.names c.in_ok-open.ensures.numbers items names numbers)
    c.push.ensures.items c.push.ensures.names c.push.ensures.numbers
