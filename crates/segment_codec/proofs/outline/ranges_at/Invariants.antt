use Rattle.std.proofs.Common.{◌-◌}
use Rattle.octet_fields.specs.Reading.{times_at}
use Rattle.octet_fields.proofs.Times.{Remaining}
use Rattle.segment_codec.specs.Outline.{range_at}
use Rattle.segment_codec.proofs.outline.ranges_at.Given as goal

abbrev pub invariant-loop : goal.invariant-loop
invariant-loop l = Remaining (range_at l.rows) l.ranges (l.count - l.counter) l.rest (times_at (range_at l.rows) l.count l.octets)
