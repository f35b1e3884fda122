use Rattle.std.proofs.Common.{◌≡◌, ◌∙◌, ◌<◌, ℕ, length, Option, Some, refl, ap, sym, subst, arith, ltb-true, rules}
use Rattle.std.specs.Int.{w128}
use Rattle.std.proofs.lemmas.Int.{to_z-of_z}
use Rattle.std.proofs.lemmas.Option.{slice_get_read}
use Rattle.mdb_items.specs.declared.calibration.Calibration.{Calibration}
use Rattle.mdb_items.proofs.Ends.{item_at}
use Rattle.mdb_lookups.specs.LabelOrder.{AreLabelsSorted, label_row, label_row_by, labels_of_calibrator}
use Rattle.mdb_lookups.specs.Lookups.{calibration_numbered}
use Rattle.mdb_lookups.proofs.label_order.label_row_by.Goals as goal

pub returns : goal.returns
returns c = λ calibrations o.
    let orders = c.args.orders.now in
    let n = c.in_ok-calibration.field-0 in
    let order = c.in_ok-order.order.now in
    let lt : n < length orders = ltb-true n (length orders) (sym c.in_ok-order.ensures.lookup.0) in
    let at = slice_get_read orders (length orders) n order refl lt c.in_ok-order.ensures.lookup.1 in
    let here = item_at calibrations n (omega (arith, lt, o.count)) in
    let labels = labels_of_calibrator here.0.calibrator in
    let sorted : AreLabelsSorted labels c.as_slice.result.now = subst (AreLabelsSorted labels) (sym c.as_slice.ensures) (o.each n order at here.0 here.1) in
    let own : Some n ≡ c.args.calibration = search rules in
    c.label_row.ensures labels sorted ∙ ap (label_row labels) (to_z-of_z w128 c.args.raw c.ranges.raw) ∙ ap (λ (k : Option Calibration). label_row_by k c.args.raw) (sym here.1)
    ∙ ap (λ (m : Option ℕ). label_row_by (calibration_numbered calibrations m) c.args.raw) own
