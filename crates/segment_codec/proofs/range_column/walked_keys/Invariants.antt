use Rattle.std.proofs.Common.{◌≡◌, ◌-◌, List, length}
use Rattle.octet_fields.proofs.Times.{with_front}
use Rattle.arch_types.specs.declared.key.Key.{Key}
use Rattle.segment_codec.specs.KeyColumn.{keys_after_at, keys_at}
use Rattle.segment_codec.specs.RangeColumn.{IsSpanOf}
use Rattle.segment_codec.proofs.range_column.walked_keys.Given as goal

abbrev pub invariant-loop-read : goal.invariant-loop-read
invariant-loop-read l =
    (front : List Key) × (length front ≡ l.read) × IsSpanOf l.from l.to front l.span × (keys_at l.count l.octets ≡ with_front front (keys_after_at (l.count - l.read) l.last l.rest))
