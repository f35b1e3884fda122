-- The database finds the row of a label.
use Rattle.std.proofs.Common.{◌≡◌, ◌∙◌, ap, sym, true}
use Rattle.std.specs.Int.{w128}
use Rattle.std.proofs.lemmas.Int.{to_z-of_z}
use Rattle.mdb_lookups.specs.LabelOrder.{label_row_by}
use Rattle.mdb_lookups.specs.Lookups.{calibration_of}
use Rattle.calibration.specs.Calibrated.{is_enumeration, label_at}
use Rattle.calibration.proofs.Labels.{label_by, row_within}
use Rattle.calibration.proofs.calibrated.calibrate_parameter.Goals as goal

pub label-requires : goal.label-requires
label-requires c = λ n is.
    let own = calibration_of c.args.mdb.now c.args.parameter in
    let same = to_z-of_z w128 c.args.raw c.ranges.raw in
    row_within own c.args.raw n c.requires.admitted (ap (label_row_by own) (sym same) ∙ sym c.label_row.ensures ∙ is)

pub returns-then-is_enumeration : goal.returns-then-is_enumeration
returns-then-is_enumeration c =
    let own = calibration_of c.args.mdb.now c.args.parameter in
    let same = to_z-of_z w128 c.args.raw c.ranges.raw in
    let enumerated : is_enumeration own ≡ true = ap is_enumeration (sym c.calibration_of-calibration.ensures) ∙ sym c.is_enumeration.ensures ∙ c.if-is_enumeration.true in
    c.label.ensures ∙ ap label_at (c.label_row.ensures ∙ ap (label_row_by own) same) ∙ label_by own c.args.raw enumerated
