use Rattle.std.proofs.Common.{[], map}
use Rattle.mdb_lookups.proofs.SortedKeys.{AreNumbered}
use Rattle.mdb_lookups.proofs.name_order.sorted_names.Given as goal

abbrev pub invariant-loop-number : goal.invariant-loop-number
invariant-loop-number g l = AreNumbered [] (map g.T.Named.name_of l.items) l.number (map (λ p. (p.0.now, p.1)) l.named.items)
