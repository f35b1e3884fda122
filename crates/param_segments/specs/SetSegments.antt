-- Which segments are those of a set.
use Rattle.std.specs.Prelude.{◌≡◌, List, map, flat_map}
use Rattle.std.specs.List.{AllByRecursion}
use Rattle.std.specs.List.Sorted.{IsStrictlySortedBy}
use Rattle.arch_types.specs.Order.{key_cmp}
use Rattle.segment_codec.specs.Segment.{IsSegment}
use Rattle.segment_codec.specs.declared.segment.Segment.{Segment}
use Rattle.param_segments.specs.Groups.{groups_of}
use Rattle.param_segments.specs.Runs.{AreRunsOf, Run, run_segments}
use Rattle.param_segments.specs.Segments.{rows_of_segments}

-- segments whose rows have no key twice, and which are a run of each group of these rows, in the groups' order
pub record AreSetSegments (segments : List Segment) : Type 0 where
  pub each : AllByRecursion IsSegment segments
  pub rising : IsStrictlySortedBy key_cmp (map (λ row. row.key) (rows_of_segments segments))
  pub runs : (runs : List Run) × AreRunsOf (groups_of (rows_of_segments segments)) runs
      × (flat_map run_segments runs ≡ segments)
