use Rattle.std.proofs.Common.{vec_len}
use Rattle.std.specs.List.{AllByRecursion}
use Rattle.turn_cell.specs.Pass.{IsFree}
use Rattle.turn_passes.specs.Passes.{Joins}
use Rattle.turn_passes.proofs.passes.join_all.Given as goal

abbrev pub invariant-loop-other : goal.invariant-loop-other
invariant-loop-other g l = record {
  free : IsFree l.cell l.pass;
  others : AllByRecursion (IsFree l.cell) l.passes.items;
  joined : Joins l.fn.passes.items l.fn.pass l.pass l.passes.items;
}

abbrev pub decreases-loop-other : goal.decreases-loop-other
decreases-loop-other g l = vec_len l.passes
