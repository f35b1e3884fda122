use Rattle.octet_fields.proofs.Times.{ends, goes_on, is_done}
use Rattle.segment_codec.specs.RawColumn.{raw_column_at}
use Rattle.segment_codec.proofs.reading.columns_at.Goals as goal

pub returns-in_err-column : goal.returns-in_err-column
returns-in_err-column c = ends (raw_column_at c.args.rows) (λ x. (x.0, x.1.now)) c.from_residual-in_err-column.result _ _ c.args.count c.loop.counter c.loop.rest.now _ c.from_residual-in_err-column.ensures.1 c.loop-test.true c.in_err-column.ensures c.loop.invariant

pub loop-preserved : goal.loop-preserved
loop-preserved c = goes_on (raw_column_at c.args.rows) c.loop.columns _ c.args.count c.loop.counter c.loop.rest.now c.in_ok-column.column c.in_ok-column.after.now _ c.in_ok-push.ensures.ok c.loop-test.true c.in_ok-column.ensures c.loop.invariant

pub returns : goal.returns
returns c = is_done (raw_column_at c.args.rows) _ c.args.count c.loop.counter c.loop.rest.now _ c.loop-test.false c.loop.invariant
