use Rattle.segment_codec.specs.OneColumn.{column_in}
use Rattle.segment_codec.proofs.Places.{at_within, column_at}
use Rattle.segment_codec.proofs.range_column.read_column_in_range.Goals as goal

pub split_at-requires : goal.split_at-requires
split_at-requires c = at_within c.args.octets.now c.args.at c.requires.0 c.requires.1

pub returns-in-Ok : goal.returns-in-Ok
returns-in-Ok c = λ s has.
    c.in-Ok.ensures (column_in c.args.parameter s) (column_at c.args.octets.now c.split_at.result.1.now c.args.at c.args.parameter s has c.split_at.ensures.back)
