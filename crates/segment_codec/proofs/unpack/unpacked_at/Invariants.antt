use Rattle.std.proofs.Common.{◌≡◌, ◌+◌, ◌*◌, ℕ, List, take, length}
use Rattle.segment_codec.specs.Bits.{number_from_digits}
use Rattle.segment_codec.specs.Pending.{IsPending, unread_bits, unread_number}
use Rattle.segment_codec.proofs.Packing.{AreUnpacked}
use Rattle.segment_codec.proofs.unpack.unpacked_at.Given as goal

abbrev pub invariant-loop : goal.invariant-loop
invariant-loop l = record {
  pending : IsPending l.pending;
  len : l.pending.count + 8 * length l.rest + l.width * l.counter ≡ 8 * l.octet_len;
  read : (numbers : List ℕ) × AreUnpacked l.width l.low l.counter (unread_bits l.pending l.rest) (unread_number l.pending l.rest) (number_from_digits 8 (take l.octet_len l.octets)) l.values.items l.top l.has_zero numbers;
}
