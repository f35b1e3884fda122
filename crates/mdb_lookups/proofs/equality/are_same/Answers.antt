use Rattle.std.proofs.Common.{refl}
use Rattle.mdb_lookups.proofs.ItemEquality.{same_each}
use Rattle.mdb_lookups.proofs.equality.are_same.Goals as goal

pub returns : goal.returns
returns g c = (λ _. same_each c.loop-i.i c.args.left.now c.args.right.now c.if-left-right.false c.loop-i-test.false c.loop-i.invariant, λ _. refl)
