use Rattle.std.proofs.Common.{◌≡◌, ◌^◌, ◌<◌, take}
use Rattle.container_extract.specs.Bits.{big_endian_number}
use Rattle.container_extract.proofs.fields.wide_number_of.Given as goal

abbrev pub invariant-loop-octet : goal.invariant-loop-octet
invariant-loop-octet l = (l.number ≡ big_endian_number (take l.octet-index l.octets)) × (l.number < 256 ^ l.octet-index)
