use Rattle.std.proofs.Common.{take}
use Rattle.std.specs.List.{AllByRecursion}
use Rattle.octet_fields.specs.Exact.{IsOctets}
use Rattle.sealed_opening.proofs.so_far.have_octets.Given as goal

abbrev pub invariant-loop-row : goal.invariant-loop-row
invariant-loop-row l = AllByRecursion (λ row. IsOctets row.packet) (take l.row-index l.rows)
