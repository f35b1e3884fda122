use Rattle.std.proofs.Common.{◌≡◌, ◌-◌, ◌≤◌, length, map, true, false}
use Rattle.std.specs.List.{AllWithin}
use Rattle.mdb_lookups.specs.NameOrder.{is_below}
use Rattle.mdb_lookups.proofs.name_order.count_below.Given as goal

abbrev pub invariant-loop-low : goal.invariant-loop-low
invariant-loop-low g l =
    (l.low ≤ l.high) × (l.high ≤ length l.order)
    × AllWithin (λ n. is_below (map g.T.Named.name_of l.items) l.name n ≡ true) l.order 0 l.low
    × AllWithin (λ n. is_below (map g.T.Named.name_of l.items) l.name n ≡ false) l.order l.high (length l.order)

abbrev pub decreases-loop-low : goal.decreases-loop-low
decreases-loop-low g l = l.high - l.low
