use Rattle.std.proofs.Common.{◌≡◌, length}
use Rattle.mdb_lookups.proofs.ByNumber.{AreOwn}
use Rattle.mdb_lookups.proofs.numbered_children.numbered_children.Given as goal

abbrev pub invariant-loop-own : goal.invariant-loop-own
invariant-loop-own l = (length l.all.items ≡ l.own-index) × AreOwn l.conditions l.children l.all.items
