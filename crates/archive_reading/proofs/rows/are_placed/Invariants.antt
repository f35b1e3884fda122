use Rattle.std.proofs.Common.{take}
use Rattle.std.specs.List.{AllByRecursion}
use Rattle.octet_fields.specs.Exact.{IsOctets}
use Rattle.archive_images.specs.Entries.{IsPlaced}
use Rattle.archive_reading.proofs.rows.are_placed.Given as goal

abbrev pub invariant-loop-row : goal.invariant-loop-row
invariant-loop-row l = record {
  placed : AllByRecursion (IsPlaced l.made.head l.made.history.items) (take l.row-index l.rows);
  octets : AllByRecursion (λ row. IsOctets row.packet) (take l.row-index l.rows);
}
