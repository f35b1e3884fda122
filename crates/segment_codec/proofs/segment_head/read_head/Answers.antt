use Rattle.segment_codec.proofs.Heads.{head_there}
use Rattle.segment_codec.proofs.Places.{at_within}
use Rattle.segment_codec.proofs.segment_head.read_head.Goals as goal

pub split_at-requires : goal.split_at-requires
split_at-requires c = at_within c.args.octets.now c.args.at c.requires.0 c.requires.1

pub returns-in-Ok : goal.returns-in-Ok
returns-in-Ok c = λ s has. head_there c.args.octets.now c.split_at.result.1.now c.args.at s _ has c.split_at.ensures.back c.in-Ok.ensures
