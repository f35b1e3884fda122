use Rattle.std.proofs.Common.{◌≡◌, ◌∙◌, ◌<◌, ◌+◌, ◌++◌, ◌∷◌, ℕ, List, [], length, Some, refl, ap, sym, subst, arith, length-append}
use Rattle.std.specs.Prelude.{ℤ, slice_get}
use Rattle.std.proofs.lemmas.Option.{slice_get_read}
use Rattle.mdb_items.specs.declared.calibration.EnumRow.{EnumRow}
use Rattle.mdb_lookups.specs.LabelOrder.{AreLabelsSorted}
use Rattle.mdb_lookups.proofs.LabelOrders.{AreOwnOrders, one_more_order}
use Rattle.mdb_lookups.proofs.label_order.label_orders.Goals as goal

pub loop-calibration-preserved : goal.loop-calibration-preserved
loop-calibration-preserved c =
    let calibrations = c.args.calibrations.now in
    let i = c.loop-calibration.calibration-index in
    let k = c.calibration-item.result in
    let orders = c.loop-calibration.orders.items in
    let order = c.in_ok-numbered.numbered.items in
    let count : length orders ≡ i = c.loop-calibration.invariant.0 in
    let lt : i < length calibrations = omega arith in
    let at = slice_get_read calibrations (length calibrations) i k refl lt c.calibration-item.is in
    let sorted = subst (λ (labels : List EnumRow). AreLabelsSorted labels order) c.labels_of.ensures c.in_ok-numbered.ensures in
    let grown : c.push.new.self.items ≡ orders ++ order ∷ [] = c.in_ok-push.ensures.items ∙ ap (λ (xs : List (ℤ × ℕ)). orders ++ xs ∷ []) c.from_vec.ensures in (
      ap length grown ∙ length-append orders (order ∷ []) ∙ ap (λ (n : ℕ). n + 1) count,
      subst (AreOwnOrders calibrations) (sym grown) (one_more_order calibrations orders order k c.loop-calibration.invariant.1 (subst (λ (n : ℕ). slice_get calibrations n ≡ Some k) (sym count) at) sorted),
    )
