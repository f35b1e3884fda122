use Rattle.std.proofs.Common.{◌≡◌, ◌++◌}
use Rattle.std.specs.Prelude.{vec_capacity}
use Rattle.varints.specs.Varint.{varint}
use Rattle.packed_cells.proofs.writing.put_word.Given as goal

abbrev pub invariant-loop-rest : goal.invariant-loop-rest
invariant-loop-rest l = record {
  octets : l.out.items ++ varint l.rest ≡ l.initial.out.items ++ varint l.n;
  room : vec_capacity l.out ≡ vec_capacity l.initial.out;
}

abbrev pub decreases-loop-rest : goal.decreases-loop-rest
decreases-loop-rest l = l.rest
