use Rattle.std.proofs.Common.{arith}
use Rattle.std.proofs.lemmas.Int.{ints}
use Rattle.segment_codec.specs.KeyColumn.{key_gap}
use Rattle.segment_codec.proofs.key_column.short_gap.Goals as goal

pub returns : goal.returns
unfolding key_gap
returns c = omega (arith, ints)
