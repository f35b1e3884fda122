use Rattle.std.proofs.Common.{◌≡◌, ◌∙◌, inr, List, [], Option, arith, subst}
use Rattle.std.specs.Prelude.{Err}
use Rattle.std.proofs.lemmas.Result.{err_from_is_err_and}
use Rattle.mdb_items.specs.declared.sheet.RawMdb.{RawMdb}
use Rattle.outer_traits.specs.Outside.{Files}
use Rattle.command_plans.specs.Ledger.{given_more}
use Rattle.command_plans.specs.Inputs.{AnsweredByPlan, WasRead}
use Rattle.mdb_sheets.specs.Plans.{sheet_plan}
use Rattle.mdb_sheets.specs.Sheets.{Fields, IsSheet}
use Rattle.mdb_sheets.proofs.Sheets.{all_read, first_unread, has_sheet, refused_after, second_unread, third_unread}
use Rattle.mdb_sheets.proofs.mdb.read_mdb.Goals as goal

pub returns-in_err-parameter_sheet-clause-read : goal.returns-in_err-parameter_sheet-clause-read
returns-in_err-parameter_sheet-clause-read g c =
    let state = g.I.Inputs.state in
    let p = err_from_is_err_and c.from_residual.result c.from_residual.ensures.1 in
    rw (p.1, p.2) (first_unread (g.I.Inputs.state c.args.inputs.now).files c.args.parameters.now c.args.calibrations.now c.args.containers.now c.in_err-parameter_sheet.field-0.0 (state c.args.inputs.now) (state c.read_sheet.new.inputs)
    c.in_err-parameter_sheet.ensures.read)

pub returns-in_err-calibration_sheet-clause-read : goal.returns-in_err-calibration_sheet-clause-read
returns-in_err-calibration_sheet-clause-read g c =
    let state = g.I.Inputs.state in
    let files = (g.I.Inputs.state c.args.inputs.now).files in
    let a = state c.args.inputs.now in
    let b = state c.read_sheet.new.inputs in
    let c2 = state c.read_sheet-2.new.inputs in
    let first = c.in_ok-parameter_sheet.ensures in
    let raw : RawMdb = record { parameters = c.in_ok-parameter_sheet.parameter_sheet; calibrations = []; containers = [] } in
    let refusal = c.in_err-calibration_sheet.field-0.0 in
    let second = subst (λ (f : Option Files). AnsweredByPlan {X = List Fields} 1 (sheet_plan f c.args.calibrations.now) (Err refusal) b c2) first.same c.in_err-calibration_sheet.ensures.read in
    let p = err_from_is_err_and c.from_residual-in_err-calibration_sheet.result c.from_residual-in_err-calibration_sheet.ensures.1 in
    rw (p.1, p.2) (second_unread files c.args.parameters.now c.args.calibrations.now c.args.containers.now raw a b first.read refusal c2 second)

pub returns-in_err-container_sheet-clause-read : goal.returns-in_err-container_sheet-clause-read
returns-in_err-container_sheet-clause-read g c =
    let state = g.I.Inputs.state in
    let files = (g.I.Inputs.state c.args.inputs.now).files in
    let a = state c.args.inputs.now in
    let b = state c.read_sheet.new.inputs in
    let c2 = state c.read_sheet-2.new.inputs in
    let first = c.in_ok-parameter_sheet.ensures in
    let next = c.in_ok-calibration_sheet.ensures in
    let raw : RawMdb = record { parameters = c.in_ok-parameter_sheet.parameter_sheet; calibrations = c.in_ok-calibration_sheet.calibration_sheet; containers = [] } in
    let refusal = c.in_err-container_sheet.field-0.0 in
    let second = subst (λ (f : Option Files). WasRead (sheet_plan f c.args.calibrations.now) raw.calibrations 1 b c2) first.same next.read in
    let third = subst (λ (f : Option Files). AnsweredByPlan {X = List Fields} 1 (sheet_plan f c.args.containers.now) (Err refusal) c2 (state c.read_sheet-3.new.inputs)) (next.same ∙ first.same) c.in_err-container_sheet.ensures.read in
    let p = err_from_is_err_and c.from_residual-in_err-container_sheet.result c.from_residual-in_err-container_sheet.ensures.1 in
    rw (p.1, p.2) (third_unread files c.args.parameters.now c.args.calibrations.now c.args.containers.now raw a b first.read c2 (state c.read_sheet-3.new.inputs) second refusal third)

pub returns-in_err-container_sheet-clause-refused : goal.returns-in_err-container_sheet-clause-refused
returns-in_err-container_sheet-clause-refused g c =
    let files = (g.I.Inputs.state c.args.inputs.now).files in
    let first = c.in_ok-parameter_sheet.ensures in
    let next = c.in_ok-calibration_sheet.ensures in
    let same = next.same ∙ first.same in
    let second = subst (λ (f : Option Files). IsSheet f c.args.calibrations.now c.in_ok-calibration_sheet.calibration_sheet) first.same next.sheet in
    let gave : (g.I.Inputs.state c.read_sheet-2.new.inputs).given ≡ given_more 2 (g.I.Inputs.state c.args.inputs.now).given = omega (arith, first.gave, next.gave) in
    let refused = refused_after files (g.I.Inputs.state c.read_sheet-2.new.inputs).files c.args.containers.now (g.I.Inputs.state c.args.inputs.now).faults (g.I.Inputs.state c.read_sheet-2.new.inputs).faults
    (g.I.Inputs.state c.read_sheet-3.new.inputs).faults (given_more 2 (g.I.Inputs.state c.args.inputs.now).given) (g.I.Inputs.state c.read_sheet-2.new.inputs).given (g.I.Inputs.state c.read_sheet-3.new.inputs).given
    c.in_err-container_sheet.field-0.0 same (next.counted ∙ first.counted) gave c.in_err-container_sheet.ensures.refused in
    let p = err_from_is_err_and c.from_residual-in_err-container_sheet.result c.from_residual-in_err-container_sheet.ensures.1 in
    rw (p.1, p.2) (inr (inr (has_sheet files c.args.parameters.now c.in_ok-parameter_sheet.parameter_sheet first.sheet, has_sheet files c.args.calibrations.now c.in_ok-calibration_sheet.calibration_sheet second, refused)))

pub returns-clause-read : goal.returns-clause-read
returns-clause-read g c =
    let state = g.I.Inputs.state in
    let files = (g.I.Inputs.state c.args.inputs.now).files in
    let a = state c.args.inputs.now in
    let b = state c.read_sheet.new.inputs in
    let c2 = state c.read_sheet-2.new.inputs in
    let first = c.in_ok-parameter_sheet.ensures in
    let next = c.in_ok-calibration_sheet.ensures in
    let raw : RawMdb = record {
      parameters = c.in_ok-parameter_sheet.parameter_sheet;
      calibrations = c.in_ok-calibration_sheet.calibration_sheet;
      containers = c.in_ok-container_sheet.container_sheet;
    } in
    let second = subst (λ (f : Option Files). WasRead (sheet_plan f c.args.calibrations.now) raw.calibrations 1 b c2) first.same next.read in
    let third = subst (λ (f : Option Files). WasRead (sheet_plan f c.args.containers.now) raw.containers 1 c2 (state c.read_sheet-3.new.inputs)) (next.same ∙ first.same) c.in_ok-container_sheet.ensures.read in
    all_read files c.args.parameters.now c.args.calibrations.now c.args.containers.now raw a b first.read c2 (state c.read_sheet-3.new.inputs) second third
