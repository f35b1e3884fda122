use Rattle.std.proofs.Common.{◌≡◌, ◌-◌, List, ℕ, Some}
use Rattle.segment_codec.specs.VarintEnds.{behind_ends}
use Rattle.segment_codec.proofs.varint_ends.varints_end.Given as goal

abbrev pub invariant-loop : goal.invariant-loop
invariant-loop l = (after : List ℕ) → behind_ends l.octets l.count ≡ Some after → behind_ends l.rest (l.left - l.counter) ≡ Some after
