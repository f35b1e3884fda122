use Rattle.std.proofs.Common.{◌≡◌, ◌+◌, ◌*◌, ℕ, List, length, map, pos}
use Rattle.segment_codec.specs.Bits.{number_from_digits, octet_count}
use Rattle.segment_codec.specs.Pending.{IsPending, unread_bits, unread_number}
use Rattle.segment_codec.specs.RawColumn.{value_above}
use Rattle.segment_codec.proofs.Packing.{AreUnpacked}
use Rattle.segment_codec.proofs.column_range.scanned_wide.Given as goal

abbrev pub invariant-loop : goal.invariant-loop
invariant-loop l = record {
  pending : IsPending l.pending;
  len : l.pending.count + 8 * length l.rest + l.width * l.counter ≡ 8 * octet_count (l.width * l.count);
  read : (numbers : List ℕ) × AreUnpacked l.width (pos 0) l.counter (unread_bits l.pending l.rest) (unread_number l.pending l.rest) (number_from_digits 8 l.octets) (map (value_above (pos 0)) numbers) l.top l.has_zero numbers;
}
