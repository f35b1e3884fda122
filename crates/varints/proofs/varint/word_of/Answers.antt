use Rattle.std.proofs.Common.{arith}
use Rattle.std.proofs.lemmas.List.{get_or-drop}
use Rattle.varints.specs.Words.{little_endian}
use Rattle.varints.proofs.varint.word_of.Goals as goal

pub returns : goal.returns
unfolding little_endian
returns c = simp get_or-drop (omega (arith, c.from_le_bytes.ensures))
