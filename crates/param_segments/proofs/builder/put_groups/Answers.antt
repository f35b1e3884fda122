use Rattle.param_segments.proofs.Loops.{octets_end, octets_step, starts_end, starts_step}
use Rattle.param_segments.proofs.builder.put_groups.Goals as goal
use Rattle.param_segments.specs.GroupContents.{AreContents, group_contents}
use Rattle.param_segments.proofs.Places.{all_at}
use Rattle.std.proofs.Common.{length}

pub put-requires : goal.put-requires
put-requires c = all_at AreContents group_contents c.args.groups.now c.loop-group.group-index c.group-item.result c.requires c.loop-group-test.true c.group-item.is

pub loop-group-preserved : goal.loop-group-preserved
loop-group-preserved c = record {
  octets = octets_step c.args.groups.now c.loop-group.group-index c.group-item.result c.loop-group.octets.items c.put.new.octets.items _ c.loop-group-test.true c.group-item.is c.in_ok-put.ensures.octets c.loop-group.invariant.octets;
  starts = starts_step c.args.groups.now c.loop-group.group-index c.group-item.result c.loop-group.octets.items c.put.new.octets.items c.loop-group.starts.items c.put.new.starts.items _ c.loop-group-test.true c.group-item.is c.in_ok-put.ensures.octets c.in_ok-put.ensures.starts c.loop-group.invariant.starts;
}

pub returns : goal.returns
returns c = record {
  octets = octets_end c.args.groups.now c.loop-group.group-index c.loop-group.octets.items _ c.loop-group-test.false c.loop-group.invariant.octets;
  starts = starts_end c.args.groups.now c.loop-group.group-index (length c.loop-group.octets.items) c.loop-group.starts.items _ c.loop-group-test.false c.loop-group.invariant.starts;
}
