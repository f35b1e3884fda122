use Rattle.std.proofs.Common.{◌≡◌, ◌≤◌, ◌*◌, length, take}
use Rattle.std.specs.List.{flat_map}
use Rattle.row_codec.specs.Spelling.{row_octets}
use Rattle.field_codec.proofs.rows.rows_size.Given as goal

abbrev pub invariant-loop-row : goal.invariant-loop-row
invariant-loop-row l = record {
  sum : l.size ≡ length (flat_map row_octets (take l.row-index l.rows));
  small : l.size ≤ l.row-index * 65554;
}
