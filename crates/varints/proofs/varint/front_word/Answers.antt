use Rattle.std.proofs.Common.{◌∙◌}
use Rattle.varints.proofs.Words.{little_endian_front}
use Rattle.varints.proofs.varint.front_word.Goals as goal

pub returns-clause-word : goal.returns-clause-word
returns-clause-word c = c.word_of.ensures ∙ little_endian_front 8 c.args.octets.now
