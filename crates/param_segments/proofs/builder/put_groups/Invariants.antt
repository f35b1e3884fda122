use Rattle.std.proofs.Common.{◌≡◌, ◌++◌, drop, length, map}
use Rattle.std.specs.Prelude.{flat_map}
use Rattle.param_segments.specs.GroupContents.{all_starts, group_contents, group_octets}
use Rattle.param_segments.proofs.builder.put_groups.Given as goal

abbrev pub invariant-loop-group : goal.invariant-loop-group
invariant-loop-group l = record {
  octets : l.octets.items ++ flat_map group_octets (map group_contents (drop l.group-index l.groups)) ≡ l.initial.octets.items ++ flat_map group_octets (map group_contents l.groups);
  starts : l.starts.items ++ all_starts (length l.octets.items) (map group_contents (drop l.group-index l.groups)) ≡ l.initial.starts.items ++ all_starts (length l.initial.octets.items) (map group_contents l.groups);
}
