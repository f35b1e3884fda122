use Rattle.segment_codec.proofs.Columns.{bit_len_least, bit_len_of}
use Rattle.segment_codec.proofs.laws.widths_are_least.Goals as goal

pub returns-clause-enough : goal.returns-clause-enough
returns-clause-enough c = λ n lt. (bit_len_of n lt).0

pub returns-clause-least : goal.returns-clause-least
returns-clause-least c = bit_len_least
