use Rattle.segment_codec.specs.OneColumn.{columns_end}
use Rattle.segment_codec.proofs.Skipped.{skip_more}
use Rattle.segment_codec.proofs.one_column.columns_end.Goals as goal

pub loop-preserved : goal.loop-preserved
loop-preserved c = skip_more c.args.columns c.args.rows c.loop.counter c.loop.rest.now c.in_ok-rest.rest.now (columns_end c.args.columns c.args.rows c.args.octets.now) c.loop-test.true c.in_ok-rest.ensures c.loop.invariant
