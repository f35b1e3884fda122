use Rattle.std.proofs.Common.{◌≡◌, ◌∙◌, Some, rules}
use Rattle.std.specs.Prelude.{option_copied}
use Rattle.mdb_items.specs.declared.calibration.Calibrator.TheVariants.{Enum}
use Rattle.mdb_items.specs.declared.rows.RowValues.TheVariants.{Label}
use Rattle.mdb_items.specs.Numbers.{has_number}
use Rattle.mdb_rules.proofs.CalibrationSteps.{repeats_enum}
use Rattle.mdb_rules.proofs.calibration_rows.repeats.Goals as goal

pub returns-in-Label-Some-default : goal.returns-in-Label-Some-default
returns-in-Label-Some-default c =
    let rows = c.in-Some-Enum.field-0-0 in
    let x = c.in-Label-Some-default.x in
    let label = c.in-Label-Some-default.field-1 in
    let calibrator : option_copied c.args.calibrator ≡ Some (Enum rows) = search rules in
    let cell : c.args.row_values.now ≡ Label (Some x) label = search rules in
    let has : c.contains.result ≡ has_number x c.args.numbers.now = search rules in
    has ∙ repeats_enum (option_copied c.args.calibrator) c.args.numbers.now rows c.args.row_values.now x label calibrator cell (c.requires (Enum rows) calibrator)
