-- What admits a calibration bounds its polynomial, and the rows of its kind give the value.
use Rattle.std.proofs.Common.{◌≡◌, ◌∙◌, ap, sym, subst, arith}
use Rattle.std.specs.Prelude.{ℤ, Some, option_copied}
use Rattle.std.specs.Int.{w128}
use Rattle.std.specs.List.{position}
use Rattle.std.specs.Ordering.{int_eq}
use Rattle.std.proofs.lemmas.Int.{to_z-of_z}
use Rattle.mdb_items.specs.declared.calibration.EnumRow.{EnumRow}
use Rattle.mdb_items.specs.declared.calibration.Calibrator.{Calibrator}
use Rattle.mdb_items.specs.declared.calibration.Calibrator.TheVariants.{Poly, Enum}
use Rattle.calibration.specs.Admitted.{IsAdmitted}
use Rattle.calibration.specs.Calibrated.{calibrated, label_at, value_by}
use Rattle.calibration.specs.Carried.{AreCarried}
use Rattle.calibration.proofs.Admission.{carried, few_rows, place_within}
use Rattle.calibration.proofs.calibrated.calibrate.Goals as goal

pub polynomial-requires : goal.polynomial-requires
polynomial-requires c =
    let same = to_z-of_z w128 c.args.raw c.ranges.raw in
    let admitted : IsAdmitted (Some c.in-Some.calibration.now) c.args.raw = subst (λ o. IsAdmitted (option_copied o) c.args.raw) c.in-Some.is c.requires in
    let kind : c.in-Some.calibration.now.calibrator ≡ Poly c.as_slice.result.now = c.in-Poly.is ∙ ap Poly (sym c.as_slice.ensures) in
    subst (λ (z : ℤ). AreCarried z c.as_slice.result.now) (sym same) (carried c.in-Some.calibration.now c.args.raw c.as_slice.result.now admitted kind)

pub label-requires : goal.label-requires
label-requires c = λ n is.
    let rows = c.as_slice-in-Enum.result.now in
    let admitted : IsAdmitted (Some c.in-Some.calibration.now) c.args.raw = subst (λ o. IsAdmitted (option_copied o) c.args.raw) c.in-Some.is c.requires in
    let kind : c.in-Some.calibration.now.calibrator ≡ Enum rows = c.in-Enum.is ∙ ap Enum (sym c.as_slice-in-Enum.ensures) in
    let few = few_rows c.in-Some.calibration.now c.args.raw rows admitted kind in
    let within = place_within _ rows n (sym c.row_of.ensures ∙ is) in
    omega (arith, few, within)

pub returns-in-Enum : goal.returns-in-Enum
returns-in-Enum c =
    let same = to_z-of_z w128 c.args.raw c.ranges.raw in
    let kind : c.in-Some.calibration.now.calibrator ≡ Enum c.as_slice-in-Enum.result.now = c.in-Enum.is ∙ ap Enum (sym c.as_slice-in-Enum.ensures) in
    c.label.ensures ∙ ap label_at (c.row_of.ensures ∙ ap (λ (z : ℤ). position (λ (row : EnumRow). int_eq row.x z) c.as_slice-in-Enum.result.now) same)
    ∙ ap (λ (t : Calibrator). value_by t c.args.raw) (sym kind) ∙ ap (λ o. calibrated (option_copied o) c.args.raw) (sym c.in-Some.is)
