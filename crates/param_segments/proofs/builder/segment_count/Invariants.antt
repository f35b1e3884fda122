use Rattle.std.proofs.Common.{◌≡◌, ◌+◌, drop, map}
use Rattle.param_segments.specs.GroupContents.{group_contents, segment_count}
use Rattle.param_segments.proofs.builder.segment_count.Given as goal

abbrev pub invariant-loop-group : goal.invariant-loop-group
invariant-loop-group l = l.count + segment_count (map group_contents (drop l.group-index l.groups)) ≡ segment_count (map group_contents l.groups)
