-- Halving finds how many points are reached, since they rise.
use Rattle.std.proofs.Common.{◌∙◌, rules, w64, FitsSigned}
use Rattle.std.specs.Prelude.{int_le}
use Rattle.std.specs.Int.{w128}
use Rattle.std.proofs.lemmas.Int.{to_z-of_z}
use Rattle.std.proofs.lemmas.List.Sorted.{IsPartitionPoint-from_clause}
use Rattle.mdb_items.specs.declared.calibration.PointsRow.{PointsRow}
use Rattle.calibration.proofs.Line.{plain}
use Rattle.calibration.proofs.Neighbours.{neighbours, reached_is, value_is}
use Rattle.calibration.proofs.Rising.{parted}
use Rattle.calibration.proofs.points.on_points.Goals as goal

pub between-requires : goal.between-requires
between-requires c =
    let points = c.args.points.now in
    let raw = plain c.args.raw in
    let point = IsPartitionPoint-from_clause (λ (p : PointsRow). int_le p.x raw) points _ c.partition_point-reached.ensures.partitioned (parted points raw c.requires.rising) (λ a r q k. search rules) in
    let near = neighbours points raw c.partition_point-reached.result c.requires.points c.partition_point-reached.ensures.bound point in
    rw (c.last_of-before.ensures, c.point_at-after.ensures) near

pub returns : goal.returns
returns c =
    let points = c.args.points.now in
    let raw = plain c.args.raw in
    let same = to_z-of_z w128 c.args.raw c.ranges.raw in
    let point = IsPartitionPoint-from_clause (λ (p : PointsRow). int_le p.x raw) points _ c.partition_point-reached.ensures.partitioned (parted points raw c.requires.rising) (λ a r q k. search rules) in
    let count = reached_is points raw c.partition_point-reached.result c.partition_point-reached.ensures.bound point in
    let fits : FitsSigned w64 c.between.result = search rules in
    to_z-of_z w64 c.between.result fits ∙ value_is points c.args.raw raw c.partition_point-reached.result _ _ c.between.result c.between.ensures c.last_of-before.ensures c.point_at-after.ensures count same
