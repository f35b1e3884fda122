use Rattle.std.proofs.Common.{◌≡◌, ◌-◌}
use Rattle.octet_fields.proofs.Times.{with_front}
use Rattle.segment_codec.specs.KeyColumn.{keys_after_at, keys_at}
use Rattle.segment_codec.proofs.key_column.keys_at.Given as goal

abbrev pub invariant-loop : goal.invariant-loop
invariant-loop l = keys_at l.count l.octets ≡ with_front l.keys (keys_after_at (l.count - l.counter) l.last l.rest)
