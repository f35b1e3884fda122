use Rattle.std.proofs.Common.{take}
use Rattle.mdb_lookups.specs.Children.{AreChildren}
use Rattle.mdb_lookups.proofs.children.children_of.Given as goal

abbrev pub invariant-loop-i : goal.invariant-loop-i
invariant-loop-i l = AreChildren (take l.i l.containers) l.children.items
