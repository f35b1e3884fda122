use Rattle.std.proofs.Common.{◌≡◌, ◌+◌, ◌*◌, ℕ, List, take}
use Rattle.octet_fields.specs.Exact.{IsOctets}
use Rattle.segment_codec.specs.Bits.{number_from_digits}
use Rattle.segment_codec.specs.Pending.{IsPending, unread_bits, unread_number}
use Rattle.segment_codec.proofs.PackedRows.{AreReadBehind}
use Rattle.segment_codec.proofs.unpack.unpacked_rows.Given as goal

abbrev pub invariant-loop : goal.invariant-loop
invariant-loop l = record {
  pending : IsPending l.pending;
  octets : IsOctets l.rest;
  len : unread_bits l.pending l.rest + l.width * (l.first + l.counter) ≡ 8 * l.octet_len;
  read : (numbers : List ℕ) × AreReadBehind l.width l.low l.counter (unread_bits l.pending l.rest) (unread_number l.pending l.rest) (number_from_digits 8 (take l.octet_len l.octets)) l.values.items numbers;
}
