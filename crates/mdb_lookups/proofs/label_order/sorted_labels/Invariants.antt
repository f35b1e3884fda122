use Rattle.std.proofs.Common.{map}
use Rattle.std.specs.Prelude.{pos}
use Rattle.mdb_lookups.proofs.SortedKeys.{AreNumbered}
use Rattle.mdb_lookups.proofs.label_order.sorted_labels.Given as goal

abbrev pub invariant-loop-row : goal.invariant-loop-row
invariant-loop-row l = AreNumbered (pos 0) (map (λ row. row.x) l.labels) l.row l.numbered.items
