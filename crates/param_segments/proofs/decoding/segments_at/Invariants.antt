use Rattle.std.proofs.Common.{◌≡◌, ◌≤◌, ◌+◌, ◌++◌, drop, length}
use Rattle.std.specs.Prelude.{flat_map}
use Rattle.std.specs.List.{AllByRecursion}
use Rattle.segment_codec.specs.Segment.{IsSegment, segment_octets}
use Rattle.param_segments.specs.Octets.{starts_from}
use Rattle.param_segments.proofs.Decoded.{AreReadSoFar}
use Rattle.param_segments.proofs.decoding.segments_at.Given as goal

abbrev pub invariant-loop : goal.invariant-loop
invariant-loop l = record {
  sound : AllByRecursion IsSegment l.segments.items;
  count : length l.segments.items ≡ l.counter;
  within : l.counter ≤ l.count;
  place : l.at ≡ 4 + length (flat_map segment_octets l.segments.items);
  spelled : drop 4 l.octets ≡ flat_map segment_octets l.segments.items ++ drop l.at l.octets;
  starts : l.starts.items ≡ starts_from 4 l.segments.items;
  each : AreReadSoFar l.mdb l.count l.octets l.segments.items l.counter l.at;
}
