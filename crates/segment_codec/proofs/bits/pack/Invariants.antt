use Rattle.std.proofs.Common.{◌≡◌, ◌+◌, ◌*◌, take, length}
use Rattle.segment_codec.specs.Bits.{number_from_digits}
use Rattle.segment_codec.specs.Pending.{IsPending, written_number}
use Rattle.segment_codec.specs.RawColumn.{offsets_from}
use Rattle.segment_codec.proofs.bits.pack.Given as goal

abbrev pub invariant-loop-value : goal.invariant-loop-value
invariant-loop-value l = record {
  pending : IsPending l.pending;
  len : 8 * length l.out.items + l.pending.count ≡ l.width * l.value-index;
  written : written_number l.out.items l.pending ≡ number_from_digits l.width (take l.value-index (offsets_from l.low l.values));
}
