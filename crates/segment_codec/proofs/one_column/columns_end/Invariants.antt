use Rattle.std.proofs.Common.{◌≡◌, ◌-◌}
use Rattle.segment_codec.specs.OneColumn.{columns_end}
use Rattle.segment_codec.proofs.one_column.columns_end.Given as goal

abbrev pub invariant-loop : goal.invariant-loop
invariant-loop l = columns_end (l.columns - l.counter) l.rows l.rest ≡ columns_end l.columns l.rows l.octets
