use Rattle.std.proofs.Common.{◌≡◌, ◌+◌, ◌*◌, ◌^◌, ◌<◌, take}
use Rattle.segment_codec.specs.Bits.{number_from_digits}
use Rattle.segment_codec.proofs.unpack.gather.Given as goal

abbrev pub invariant-loop-octet : goal.invariant-loop-octet
invariant-loop-octet l = record {
  sum : l.all ≡ l.bits * 2 ^ (8 * l.octet-index) + number_from_digits 8 (take l.octet-index l.rest);
  below : l.all < 2 ^ (64 + 8 * l.octet-index);
}
