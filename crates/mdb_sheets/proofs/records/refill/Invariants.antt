use Rattle.std.proofs.Common.{◌≡◌, take}
use Rattle.csv.specs.Records.{fields_of}
use Rattle.mdb_sheets.proofs.records.refill.Given as goal

abbrev pub invariant-loop-octets : goal.invariant-loop-octets
invariant-loop-octets l = (l.octets-iterator.row.now ≡ l.fn.row) × (l.copy ≡ take l.octets-iterator.at (fields_of l.fn.row))
