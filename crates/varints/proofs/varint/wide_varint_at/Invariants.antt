use Rattle.std.proofs.Common.{◌≡◌, ◌<◌, ◌^◌}
use Rattle.varints.specs.Varint.{varint_at}
use Rattle.varints.proofs.Varints.{behind}
use Rattle.varints.proofs.varint.wide_varint_at.Given as goal

abbrev pub invariant-loop : goal.invariant-loop
invariant-loop l = record {
  low : l.value < l.weight;
  weight : l.weight ≡ 128 ^ l.counter;
  read : varint_at l.octets ≡ behind l.value l.weight (varint_at l.rest);
}
