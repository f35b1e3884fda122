use Rattle.octet_fields.proofs.Times.{ends, goes_on, is_done}
use Rattle.octet_fields.proofs.codec.each_at.Goals as goal

pub returns-in_err-value : goal.returns-in_err-value
returns-in_err-value g c = ends g.D.Decode.read (λ x. (x.0.items, x.1.now)) c.from_residual-in_err-value.result _ _ c.args.count c.loop.counter c.loop.rest.now _ c.from_residual-in_err-value.ensures.1 c.loop-test.true c.in_err-value.ensures c.loop.invariant

pub loop-preserved : goal.loop-preserved
loop-preserved g c = goes_on g.D.Decode.read c.loop.values.items _ c.args.count c.loop.counter c.loop.rest.now c.in_ok-value.value c.in_ok-value.after.now _ c.in_ok-push.ensures.items c.loop-test.true c.in_ok-value.ensures c.loop.invariant

pub returns : goal.returns
returns g c = is_done g.D.Decode.read _ c.args.count c.loop.counter c.loop.rest.now _ c.loop-test.false c.loop.invariant
