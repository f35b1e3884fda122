use Rattle.segment_codec.proofs.VarintEnds.{keys_end}
use Rattle.segment_codec.proofs.range_column.gaps_end.Goals as goal

pub returns : goal.returns
returns c = λ after are. c.varints_end.ensures after (keys_end c.args.count c.args.octets.now after are)
