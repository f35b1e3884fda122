use Rattle.octet_fields.proofs.Times.{ends, goes_on, is_done}
use Rattle.segment_codec.specs.Outline.{range_at}
use Rattle.segment_codec.proofs.outline.ranges_at.Goals as goal

pub returns-in_err-range : goal.returns-in_err-range
returns-in_err-range c = ends (range_at c.args.rows) (λ x. (x.0, x.1.now)) c.from_residual-in_err-range.result _ _ c.args.count c.loop.counter c.loop.rest.now _ c.from_residual-in_err-range.ensures.1 c.loop-test.true c.in_err-range.ensures c.loop.invariant

pub loop-preserved : goal.loop-preserved
loop-preserved c = goes_on (range_at c.args.rows) c.loop.ranges _ c.args.count c.loop.counter c.loop.rest.now c.in_ok-range.range c.in_ok-range.after.now _ c.in_ok-push.ensures.ok c.loop-test.true c.in_ok-range.ensures c.loop.invariant

pub returns : goal.returns
returns c = is_done (range_at c.args.rows) _ c.args.count c.loop.counter c.loop.rest.now _ c.loop-test.false c.loop.invariant
