use Rattle.std.proofs.Common.{◌≡◌, ◌≤◌, ◌*◌, length, take}
use Rattle.std.specs.List.{flat_map}
use Rattle.octet_fields.specs.Spelling.{name}
use Rattle.field_codec.proofs.opening.names_size.Given as goal

abbrev pub invariant-loop-table : goal.invariant-loop-table
invariant-loop-table l = record {
  sum : l.size ≡ length (flat_map name (take l.table-index l.names));
  small : l.size ≤ l.table-index * 65;
}
