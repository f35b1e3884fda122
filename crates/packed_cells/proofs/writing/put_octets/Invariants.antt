use Rattle.std.proofs.Common.{◌≡◌, ◌++◌, take}
use Rattle.std.specs.Prelude.{vec_capacity}
use Rattle.packed_cells.proofs.writing.put_octets.Given as goal

abbrev pub invariant-loop-octet : goal.invariant-loop-octet
invariant-loop-octet l = record {
  octets : l.out.items ≡ l.initial.out.items ++ take l.octet-index l.octets;
  room : vec_capacity l.out ≡ vec_capacity l.initial.out;
}
