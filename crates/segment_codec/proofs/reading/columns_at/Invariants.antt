use Rattle.std.proofs.Common.{◌-◌}
use Rattle.octet_fields.specs.Reading.{times_at}
use Rattle.octet_fields.proofs.Times.{Remaining}
use Rattle.segment_codec.specs.RawColumn.{raw_column_at}
use Rattle.segment_codec.proofs.reading.columns_at.Given as goal

abbrev pub invariant-loop : goal.invariant-loop
invariant-loop l = Remaining (raw_column_at l.rows) l.columns (l.count - l.counter) l.rest (times_at (raw_column_at l.rows) l.count l.octets)
