use Rattle.std.proofs.Common.{◌≡◌, ◌+◌, ◌-◌, ◌*◌, ◌^◌, ◌<◌}
use Rattle.container_extract.specs.Bits.{reversed}
use Rattle.container_extract.proofs.fields.reversed.Given as goal

abbrev pub invariant-loop : goal.invariant-loop
invariant-loop l = record {
  below : l.swapped < 256 ^ l.counter;
  left : reversed l.octets l.number ≡ l.swapped * 256 ^ (l.octets - l.counter) + reversed (l.octets - l.counter) l.rest;
}
