use Rattle.std.proofs.Common.{◌≡◌, length}
use Rattle.mdb_lookups.proofs.LabelOrders.{AreOwnOrders}
use Rattle.mdb_lookups.proofs.label_order.label_orders.Given as goal

abbrev pub invariant-loop-calibration : goal.invariant-loop-calibration
invariant-loop-calibration l = (length l.orders.items ≡ l.calibration-index) × AreOwnOrders l.calibrations l.orders.items
