use Rattle.std.proofs.Common.{◌-◌}
use Rattle.octet_fields.specs.Reading.{times_at}
use Rattle.octet_fields.proofs.Times.{Remaining}
use Rattle.octet_fields.proofs.codec.each_at.Given as goal

abbrev pub invariant-loop : goal.invariant-loop
invariant-loop g l = Remaining g.D.Decode.read l.values.items (l.count - l.counter) l.rest (times_at g.D.Decode.read l.count l.octets)
