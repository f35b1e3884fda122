use Rattle.std.proofs.Common.{take}
use Rattle.mdb_lookups.specs.NumberedChildren.{AreByNumber}
use Rattle.mdb_lookups.proofs.numbered_children.by_number.Given as goal

abbrev pub invariant-loop-child : goal.invariant-loop-child
invariant-loop-child l = AreByNumber l.conditions (take l.child-index l.children) l.numbered
