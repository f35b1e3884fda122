use Rattle.std.proofs.Common.{arith}
use Rattle.varints.proofs.Varints.{short_below}
use Rattle.segment_codec.proofs.key_column.wide_key_after_at.Goals as goal

pub overflow_add-sum : goal.overflow_add-sum
overflow_add-sum c = let low = short_below c.args.octets.now c.in_ok-gap.gap c.in_ok-gap.rest.now c.in_ok-gap.ensures in omega arith
