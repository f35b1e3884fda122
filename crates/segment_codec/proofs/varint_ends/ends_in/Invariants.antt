use Rattle.std.proofs.Common.{◌≡◌, ◌≤◌, take}
use Rattle.segment_codec.specs.VarintEnds.{ends_in}
use Rattle.segment_codec.proofs.varint_ends.ends_in.Given as goal

abbrev pub invariant-loop-octet : goal.invariant-loop-octet
invariant-loop-octet l = (l.ends ≡ ends_in (take l.octet-index l.octets)) × (l.ends ≤ l.octet-index)
