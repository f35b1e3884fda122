use Rattle.std.proofs.Common.{arith}
use Rattle.segment_codec.proofs.Packing.{wide_same, wide_below}
use Rattle.segment_codec.proofs.unpack.take_wide.Goals as goal

pub returns-clause-number : goal.returns-clause-number
returns-clause-number c = rw (c.from-2.ensures, c.from-3.ensures) (wide_below c.take-high.result.0 c.take-low.result.0 c.args.width c.if-width-le64.false c.take-high.ensures.number c.take-low.ensures.number)

pub returns-clause-same : goal.returns-clause-same
returns-clause-same c = rw (c.from-2.ensures, c.from-3.ensures) (wide_same c.take-high.result.0 c.take-low.result.0 _ _ _ _ _ (omega (arith, c.take-low.ensures.len)) c.take-high.ensures.same c.take-low.ensures.same)
