use Rattle.segment_codec.proofs.Numbers.{shifted_in_word}
use Rattle.segment_codec.proofs.bits.joined_word.Goals as goal

pub returns : goal.returns
returns c = shifted_in_word c.args.pending.bits c.args.number c.args.pending.count c.args.width c.requires.pending.bits c.requires.room
