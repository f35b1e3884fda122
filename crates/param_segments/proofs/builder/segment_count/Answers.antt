use Rattle.std.proofs.Common.{◌≡◌, ◌+◌, length, arith}
use Rattle.param_segments.proofs.Loops.{count_end, count_step}
use Rattle.param_segments.proofs.builder.segment_count.Goals as goal

pub loop-group-preserved : goal.loop-group-preserved
loop-group-preserved c = count_step c.args.groups.now c.loop-group.group-index c.group-item.result c.loop-group.count c.in_ok-count.count _ c.loop-group-test.true c.group-item.is (let e : c.in_ok-count.count ≡ c.loop-group.count + (length c.group-item.result.starts.items + 1) = omega (arith, c.in_ok-count.ensures, c.len.ensures, c.group-item.result.starts.ok.0) in e) c.loop-group.invariant

pub returns : goal.returns
returns c = count_end c.args.groups.now c.loop-group.group-index c.loop-group.count _ c.loop-group-test.false c.loop-group.invariant
