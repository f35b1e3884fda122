use Rattle.std.proofs.Common.{◌-◌}
use Rattle.octet_fields.specs.Reading.{times_at}
use Rattle.octet_fields.proofs.Times.{Remaining}
use Rattle.row_codec.specs.Block.{IsEndOf}
use Rattle.row_codec.specs.Reading.{row_at}
use Rattle.field_codec.proofs.rows.some_rows_at.Given as goal

abbrev pub invariant-loop : goal.invariant-loop
invariant-loop l = record {
  read : Remaining row_at l.rows (l.count - l.counter) l.rest (times_at row_at l.count l.octets);
  end : IsEndOf l.rest l.block;
}
