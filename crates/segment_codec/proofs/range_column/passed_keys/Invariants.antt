use Rattle.std.proofs.Common.{◌-◌, ◌≤◌}
use Rattle.segment_codec.specs.KeyColumn.{key_after, keys_after_at}
use Rattle.segment_codec.specs.RangeColumn.{ArePassed}
use Rattle.segment_codec.proofs.range_column.passed_keys.Given as goal

abbrev pub invariant-loop-passed : goal.invariant-loop-passed
invariant-loop-passed l = record {
  few : l.passed ≤ l.count;
  less : l.left ≤ l.far;
  passed : ArePassed l.from l.passed (keys_after_at l.count l.first l.octets) (keys_after_at (l.count - l.passed) (key_after l.first (l.far - l.left)) l.rest);
}

abbrev pub decreases-loop-passed : goal.decreases-loop-passed
decreases-loop-passed l = l.count - l.passed
