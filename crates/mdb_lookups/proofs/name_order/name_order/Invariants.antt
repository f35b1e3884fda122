use Rattle.std.proofs.Common.{◌≡◌, map, take}
use Rattle.mdb_lookups.proofs.name_order.name_order.Given as goal

abbrev pub invariant-loop-number : goal.invariant-loop-number
invariant-loop-number g l = l.order.items ≡ map (λ p. p.1) (take l.number-index l.number-items)
