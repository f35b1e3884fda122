use Rattle.mdb_lookups.proofs.ItemEquality.{AgreeTo}
use Rattle.mdb_lookups.proofs.equality.are_same.Given as goal

abbrev pub invariant-loop-i : goal.invariant-loop-i
invariant-loop-i g l = AgreeTo l.i l.left l.right
