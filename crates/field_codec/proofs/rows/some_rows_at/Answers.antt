use Rattle.row_codec.specs.Reading.{row_at}
use Rattle.octet_fields.proofs.Times.{ends, goes_on, is_done}
use Rattle.field_codec.proofs.rows.some_rows_at.Goals as goal

pub returns-in_err-row : goal.returns-in_err-row
returns-in_err-row c = ends row_at (λ x. (x.0, x.1.now)) c.from_residual-in_err-row.result _ _ c.args.count c.loop.counter c.loop.rest.now _ c.from_residual-in_err-row.ensures.1 c.loop-test.true c.in_err-row.ensures.gives c.loop.invariant.read

pub loop-preserved : goal.loop-preserved
loop-preserved c = record {
  read = goes_on row_at c.loop.rows _ c.args.count c.loop.counter c.loop.rest.now c.in_ok-row.row c.in_ok-row.after.now _ c.in_ok-push.ensures.ok c.loop-test.true c.in_ok-row.ensures.gives c.loop.invariant.read;
  end = c.in_ok-row.ensures.rest;
}

pub returns : goal.returns
returns c = is_done row_at _ c.args.count c.loop.counter c.loop.rest.now _ c.loop-test.false c.loop.invariant.read
